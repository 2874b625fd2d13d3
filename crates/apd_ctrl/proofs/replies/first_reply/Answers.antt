use Rattle.std.proofs.Common.{◌∙◌}
use Rattle.std.proofs.lemmas.Result.{IfOk-weaker}
use Rattle.apd_ctrl.proofs.Addresses.{first_text}
use Rattle.apd_ctrl.proofs.replies.first_reply.Goals as goal

pub returns : goal.returns
returns c = IfOk-weaker c.row_reply.result _ _ (λ reply e. e ∙ first_text c.args.table.now c.args.bssid c.first.result c.first.ensures.least c.first.ensures.row c.first.ensures.none) c.row_reply.ensures
