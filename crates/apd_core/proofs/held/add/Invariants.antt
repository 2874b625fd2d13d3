use Rattle.std.proofs.Common.{◌≡◌, ◌+◌, map, length}
use Rattle.apd_core.proofs.Words.{AllByRecursion, MayFollow, before, queues_with_outs}
use Rattle.apd_core.proofs.held.add.Given as goal

-- what is still to be added, from the queues as they are
abbrev pub invariant-loop-to : goal.invariant-loop-to
invariant-loop-to l = record {
  next : (goal.iterator-loop-to).can_next l.to-iterator;
  finite : (goal.iterator-loop-to).is_finite l.to-iterator;
  size : length l.queues ≡ length l.confs + 1;
  added : queues_with_outs l.confs l.number l.to-iterator.rest.items l.queues ≡ queues_with_outs l.confs l.number l.fn.outs.items l.fn.queues;
  before : map (before l.number) l.queues ≡ map (before l.number) l.fn.queues;
  order : AllByRecursion (MayFollow l.number) l.fn.queues → AllByRecursion (MayFollow l.number) l.queues;
}
