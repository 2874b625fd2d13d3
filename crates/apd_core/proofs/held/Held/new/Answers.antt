use Rattle.std.proofs.Common.{refl}
use Rattle.apd_core.proofs.HeldLemmas.{held_none, held_same}
use Rattle.apd_core.proofs.held.Held.new.Goals as goal

pub invariant_of-result : goal.invariant_of-result
invariant_of-result c = held_same _ _ _ _ 0 0 c.in_ok-empty_queues.ensures c.new.ensures refl (held_none c.args.confs.now)
