use Rattle.std.proofs.Common.{length, take}
use Rattle.apd_world.proofs.Words.{AreAllApplied, HoldsReplies, OnlyHands, durable_of, queue_of}
use Rattle.apd_world.proofs.RunLemmas.{IsApplying}
use Rattle.apd_world.proofs.world.World.apply_all.Given as goal

-- at so many interfaces no out waits
abbrev pub invariant-loop-place : goal.invariant-loop-place
invariant-loop-place g l = record {
  applied : AreAllApplied g.D.Disk.model g.R.Radio.model (take l.place (durable_of l.fn.self).core.confs) l.fn.answers.items l.answers.items l.fn.self l.self;
  only : OnlyHands (durable_of l.fn.self) (durable_of l.self);
  replies : HoldsReplies (durable_of l.fn.self) (durable_of l.self);
}

-- and at the next some were applied
abbrev pub invariant-loop-bssid : goal.invariant-loop-bssid
invariant-loop-bssid g l = record {
  applying : IsApplying g.D.Disk.model g.R.Radio.model (take l.place (durable_of l.fn.self).core.confs) l.bssid l.fn.answers.items l.answers.items l.fn.self l.self;
  only : OnlyHands (durable_of l.fn.self) (durable_of l.self);
  replies : HoldsReplies (durable_of l.fn.self) (durable_of l.self);
}

-- what waits
abbrev pub decreases-loop-bssid : goal.decreases-loop-bssid
decreases-loop-bssid g l = length (queue_of l.self l.bssid)
