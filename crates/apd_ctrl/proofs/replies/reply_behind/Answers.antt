use Rattle.std.proofs.Common.{◌∙◌}
use Rattle.std.proofs.lemmas.Result.{IfOk-weaker}
use Rattle.apd_ctrl.proofs.Addresses.{next_text}
use Rattle.apd_ctrl.proofs.replies.reply_behind.Goals as goal

pub returns : goal.returns
returns c = IfOk-weaker c.row_reply.result _ _ (λ reply e. e ∙ next_text c.args.table.now c.args.bssid c.args.addr c.next.result c.next.ensures.least c.next.ensures.row c.next.ensures.none) c.row_reply.ensures
