use Rattle.std.proofs.Common.{length}
use Rattle.apd_world.proofs.Words.{durable_of}
use Rattle.apd_world.proofs.RunLemmas.{AreRounds}
use Rattle.apd_world.proofs.world.World.settle.Given as goal

abbrev pub invariant-loop-end : goal.invariant-loop-end
invariant-loop-end g l = AreRounds g.D.Disk.model g.R.Radio.model l.fn.self l.self

-- what is not settled
abbrev pub decreases-loop-end : goal.decreases-loop-end
decreases-loop-end g l = length (durable_of l.self).core.unsettled
