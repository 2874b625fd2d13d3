use Rattle.std.proofs.Common.{take}
use Rattle.apd_world.proofs.Words.{AreAnswered, HoldsReplies, OnlyHands, durable_of, radio_hands}
use Rattle.apd_world.proofs.world.World.hand_to_radios.Given as goal

-- so many radios were handed what is settled
abbrev pub invariant-loop-place : goal.invariant-loop-place
invariant-loop-place g l = record {
  answered : AreAnswered g.D.Disk.model g.R.Radio.model (radio_hands (take l.place (durable_of l.fn.self).core.confs)) l.fn.answers.items l.answers.items l.fn.self l.self;
  only : OnlyHands (durable_of l.fn.self) (durable_of l.self);
  replies : HoldsReplies (durable_of l.fn.self) (durable_of l.self);
}
