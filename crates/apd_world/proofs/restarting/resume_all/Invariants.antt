use Rattle.apd_world.proofs.ResumeLemmas.{Resumes}
use Rattle.apd_world.proofs.SoFar.{AreSoFar}
use Rattle.apd_world.proofs.restarting.resume_all.Given as goal

abbrev pub invariant-loop-slot : goal.invariant-loop-slot
invariant-loop-slot g l = AreSoFar (Resumes g.R.Radio.model g.R.Radio.frames l.table) l.slot-index l.initial.slots l.slots
