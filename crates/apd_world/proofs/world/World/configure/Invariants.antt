use Rattle.std.proofs.Common.{take}
use Rattle.apd_world.proofs.Words.{AreAccepted, HoldsReplies, durable_of}
use Rattle.apd_world.proofs.world.World.configure.Given as goal

-- so many interfaces are configured, and replies wait as they did
abbrev pub invariant-loop-conf : goal.invariant-loop-conf
invariant-loop-conf g l =
    AreAccepted g.D.Disk.model g.R.Radio.model (take l.conf-index l.conf-items) l.fn.self l.self
    × HoldsReplies (durable_of l.fn.self) (durable_of l.self)
