use Rattle.std.proofs.Common.{◌≡◌, [], ◌∷◌, ℕ, List, ap, inl, refl, ◌∙◌}
use Rattle.apd_ctrl.specs.Grammar.{text_of_refusal}
use Rattle.apd_ctrl.specs.declared.parser.Refusal.{Refusal}
use Rattle.apd_ctrl.specs.declared.parser.Refusal.TheVariants.{Unknown, Fail}
use Rattle.apd_desk.proofs.Replies.{sent}
use Rattle.apd_desk.specs.Replying.{IsAtOnce, text_of}
use Rattle.apd_desk.proofs.controlling.refuse.Goals as goal

-- the two tables of texts are one
same_text : (why : Refusal) → text_of_refusal why ≡ text_of why
same_text Unknown = refl
same_text Fail = refl

pub returns : goal.returns
returns g c =
    sent IsAtOnce c.reply-sent.result (c.args.tag, c.text.result.now) _ _ c.reply-sent.ensures.replied c.reply-sent.ensures.lost
    (inl (c.args.tag, c.args.refusal, ap (λ (t : List ℕ). (c.args.tag, t) ∷ []) (c.text.ensures ∙ same_text c.args.refusal)))
