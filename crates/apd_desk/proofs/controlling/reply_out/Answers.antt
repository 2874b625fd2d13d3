use Rattle.std.proofs.Common.{[], ◌∷◌, subst, sym}
use Rattle.apd_mlme.specs.declared.decision.Out.{Out}
use Rattle.apd_desk.proofs.Replies.{not_replied, replied_next}
use Rattle.apd_desk.specs.Replying.{AreReplied}
use Rattle.apd_desk.proofs.controlling.reply_out.Goals as goal

pub returns-in-Text : goal.returns-in-Text
returns-in-Text g c =
    subst (λ (out : Out). AreReplied (out ∷ []) (g.P.Port.replied c.args.port.now) (g.P.Port.replied c.reply-sent.new.self)) (sym c.in-Text.is)
    (replied_next c.reply-sent.result c.in-Text.tag c.as_slice.result.now c.in-Text.text _ _ c.as_slice.ensures c.reply-sent.ensures.replied c.reply-sent.ensures.lost)

pub returns-in_default : goal.returns-in_default
returns-in_default g c = not_replied c.args.out.now _
