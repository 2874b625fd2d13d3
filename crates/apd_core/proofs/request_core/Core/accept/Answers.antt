use Rattle.std.proofs.Common.{refl, sym, ap, ◌∙◌}
use Rattle.apd_core.proofs.Words.{core_of, event_happening, happening, with_sender}
use Rattle.apd_core.proofs.Accepting.{decided_state}
use Rattle.apd_core.proofs.Kept.{sender_kept}
use Rattle.apd_core.proofs.request_core.Core.accept.Goals as goal

pub invariant_of-self : goal.invariant_of-self
invariant_of-self c =
    sender_kept c.self.inside (record c.self.inside { heard = c.hear_sender.new.self }) c.args.moment (happening c.in-Ok.event) c.self.invariant
    (λ i. record (core_of c.self.inside) { heard = c.hear_sender.ensures i }) refl refl refl refl refl

pub returns-clause-ok : goal.returns-clause-ok
returns-clause-ok c =
    let s = c.args.self.now in
    let h = happening c.in-Ok.event in
    decided_state s c.args.moment c.args.input h c.in_ok-answer.answer _ (sym c.is_stopped.ensures.value ∙ c.if-is_stopped.false) (sym c.is_busy.ensures ∙ c.if-is_busy.false)
    (sym c.event_of.ensures.happening ∙ ap event_happening c.in-Ok.is) c.in_ok-answer.ensures.answer
    ((λ i. record (core_of c.self.inside) { heard = c.hear_sender.ensures i }) ∙ ap (with_sender c.args.moment h) (c.self.view_is ∙ c.in_ok-answer.ensures.ok))
