use Rattle.apd_desk.proofs.Replies.{settled}
use Rattle.apd_desk.proofs.controlling.reply_settled.Goals as goal

pub returns-clause-replied : goal.returns-clause-replied
returns-clause-replied g c = settled c.in-Ok.outs.items _ _ c.in-Ok.ensures.outs c.reply_all.ensures
