use Rattle.std.proofs.Common.{[], ◌∷◌, ℕ, List, ap, inr}
use Rattle.apd_desk.proofs.Replies.{sent}
use Rattle.apd_desk.specs.Replying.{IsAtOnce}
use Rattle.apd_desk.proofs.controlling.answer_query.Goals as goal

pub returns : goal.returns
returns g c = λ is.
    sent IsAtOnce c.reply-sent.result (c.args.tag, c.text.result.now) _ _ c.reply-sent.ensures.replied c.reply-sent.ensures.lost
    (inr (c.args.tag, c.args.answer.now, is, ap (λ (t : List ℕ). (c.args.tag, t) ∷ []) c.text.ensures))
