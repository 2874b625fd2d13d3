-- What is held for control while interfaces are configured: a configuration has no reply.
use Rattle.std.proofs.Common.{◌≡◌, List, [], ◌++◌, Some, Result, Ok, sym, ap, subst, ◌∙◌, refl}
use Rattle.std.proofs.lemmas.List.{append-nil}
use Rattle.apd_core.specs.Heard.{LastHeard}
use Rattle.apd_core.specs.Requests.{happening_of, happening_said, or_expiry}
use Rattle.apd_world.proofs.Words.{Accept, Accepted, Apply, AreFit, Ask, Call, Conf, Configure, Control, Hand, Happening, HoldsReplies, Input, IsWorldStep, Moment, Publish, QuietReason, RadioModel, Reception, Sound, State, Step, Take, Told, World, durable_of, front_of, held_for, outs_run, reception_happenings, step_happenings}
use Rattle.apd_world.specs.Starting.{request_of}
use Rattle.apd_world.specs.declared.step.Reception.TheVariants.{Entry}
use Rattle.apd_world.proofs.DurableSteps.{none_some}
use Rattle.apd_world.proofs.Lasting.{AreAnswered}
use Rattle.apd_world.proofs.RunLemmas.{asked_of}

module _ (all_answered : AreAnswered) (conf : Conf) where
  abbrev started : Happening
  started = Configure conf.bssid conf.accept conf.deny

  module _ (s : State) (confs : List Conf) (sound : Sound s) where
    entered : (answer : Reception) → AreFit s confs (reception_happenings answer (Ok started)) → outs_run Control s confs (reception_happenings answer (Ok started)) ≡ []
    entered (Entry number) fit = ap (λ outs. outs ++ []) (all_answered s confs started fit.0 sound)
    entered answer fit = refl

    asked : (heard : LastHeard) (i : Input) (m : Moment) (t : Told) → happening_said i ≡ Some (Ok started) → AreFit s confs (step_happenings confs heard (Accept i m) t)
        → outs_run Control s confs (step_happenings confs heard (Accept i m) t) ≡ []
    asked heard i m (Accepted answer) is =
        let said : happening_of confs heard m i ≡ Ok started = ap (or_expiry confs heard m) is in
        subst (λ (h : Result Happening QuietReason). AreFit s confs (reception_happenings answer h) → outs_run Control s confs (reception_happenings answer h) ≡ []) (sym said) (entered answer)
    asked heard i m t is = λ fit. refl

  module _ {D R : Type 0} (radio : RadioModel R) where
    pub configured_replies : (x : Step) (t : Told) (a b : World D R) → request_of x ≡ asked_of conf → Sound (front_of (durable_of a).core) → IsWorldStep radio x t a b
        → HoldsReplies (durable_of a) (durable_of b)
    configured_replies (Accept i m) t a b is sound step =
        let core = (durable_of a).core in
        let said : happening_said i ≡ Some (Ok started) = cc in
        step.durable.goes.outs Control
        ∙ ap (λ outs. held_for Control core ++ outs) (asked (front_of core) core.confs sound core.heard i m step.inside said step.durable.goes.fit)
        ∙ append-nil (held_for Control core)
    configured_replies Take t a b is sound step = none_some (request_of Take) _ refl is
    configured_replies Call t a b is sound step = none_some (request_of Call) _ refl is
    configured_replies Publish t a b is sound step = none_some (request_of Publish) _ refl is
    configured_replies (Hand r) t a b is sound step = none_some (request_of (Hand r)) _ refl is
    configured_replies (Apply c) t a b is sound step = none_some (request_of (Apply c)) _ refl is
    configured_replies (Ask q) t a b is sound step = none_some (request_of (Ask q)) _ refl is
