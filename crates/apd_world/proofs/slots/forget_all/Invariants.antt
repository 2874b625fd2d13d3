use Rattle.apd_world.proofs.Words.{HasForgotten}
use Rattle.apd_world.proofs.SoFar.{AreSoFar}
use Rattle.apd_world.proofs.slots.forget_all.Given as goal

abbrev pub invariant-loop-slot : goal.invariant-loop-slot
invariant-loop-slot g l = AreSoFar HasForgotten l.slot-index l.initial.slots l.slots
