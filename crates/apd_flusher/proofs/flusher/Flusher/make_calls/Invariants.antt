use Rattle.apd_flusher.specs.Outside.{calls_left}
use Rattle.apd_flusher.proofs.Turns.{Turned}
use Rattle.apd_flusher.proofs.flusher.Flusher.make_calls.Given as goal

-- what the turns so far keep
abbrev pub invariant-loop-self : goal.invariant-loop-self
invariant-loop-self g l = Turned g.D.Disk.model l.fn.self l.self

abbrev pub decreases-loop-self : goal.decreases-loop-self
decreases-loop-self g l = calls_left l.self
