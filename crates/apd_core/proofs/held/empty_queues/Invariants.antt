use Rattle.std.proofs.Common.{◌≡◌, ◌++◌, drop}
use Rattle.apd_core.specs.Held.{no_queues}
use Rattle.apd_core.proofs.held.empty_queues.Given as goal

abbrev pub invariant-loop-conf : goal.invariant-loop-conf
invariant-loop-conf l = l.queues.items ++ no_queues (drop l._conf-index l.confs) ≡ no_queues l.confs
