use Rattle.apd_world.proofs.Words.{calls_left, durable_of, flusher_of}
use Rattle.apd_world.proofs.RoundLemmas.{IsCalling, left_by}
use Rattle.apd_world.proofs.world.World.commit.Given as goal

abbrev pub invariant-loop-self : goal.invariant-loop-self
invariant-loop-self g l = IsCalling g.D.Disk.model g.R.Radio.model l.taken l.called l.fn.self l.self

abbrev pub decreases-loop-self : goal.decreases-loop-self
decreases-loop-self g l = left_by l.called (calls_left (flusher_of (durable_of l.self)))
