use Rattle.apd_desk.specs.Replying.{AreReplied}
use Rattle.apd_desk.proofs.controlling.reply_all.Given as goal

abbrev pub invariant-loop-out : goal.invariant-loop-out
invariant-loop-out g l = AreReplied l.yielded (g.P.Port.replied l.fn.port) (g.P.Port.replied l.port)
