use Rattle.std.proofs.Common.{◌≡◌, ◌++◌, map, take, drop}
use Rattle.apd_core.specs.for_proofs.TakingBack.{before}
use Rattle.apd_core.proofs.held.cut.Given as goal

abbrev pub invariant-loop-queue : goal.invariant-loop-queue
invariant-loop-queue l = l.queues ≡ map (before l.number) (take l.queue-index l.initial.queues) ++ drop l.queue-index l.initial.queues
