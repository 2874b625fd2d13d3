use Rattle.apd_desk.proofs.Replies.{and_next}
use Rattle.apd_desk.proofs.controlling.reply_all.Goals as goal

pub loop-out-preserved-in-Some : goal.loop-out-preserved-in-Some
loop-out-preserved-in-Some g c = and_next c.loop-out.yielded c.in-Some.out _ _ _ c.loop-out.invariant c.reply_out.ensures

pub loop-out-preserved-in-Some-2 : goal.loop-out-preserved-in-Some-2
loop-out-preserved-in-Some-2 g c = and_next c.loop-out.yielded c.in-Some.out _ _ _ c.loop-out.invariant c.reply_out.ensures

pub loop-out-preserved : goal.loop-out-preserved
loop-out-preserved g c = and_next c.loop-out.yielded c.in-Some.out _ _ _ c.loop-out.invariant c.reply_out.ensures
