-- Slots follow the table.
use Rattle.std.proofs.Common.{◌≡◌, List, [], ◌∷◌, Some, refl, sym, ap, subst, ◌∙◌}
use Rattle.std.specs.Prelude.{IsSome}
use Rattle.std.specs.FinMap as maps
use Rattle.apd_world.proofs.Words.{AreFollowing, Bssid, Conf, CoreState, Goes, Happening, IsWorldStep, Out, Radio, RadioModel, Recipient, Slot, State, Step, Told, World, aid_at, applied_outs, driver_after_all, durable_of, step_happenings, front_of, handed_outs, held_for, outs_run, outs_to, run, slot_at, slots_of, verdict, wanted_then}
use Rattle.apd_conf.specs.Confs.{conf_at}
use Rattle.apd_mlme.specs.laws.Driver.{DriverMap}
use Rattle.apd_mlme.proofs.OutsLemmas.{driver_after_all-append}
use Rattle.apd_mlme.proofs.VerdictLemmas.{follows_in}
use Rattle.apd_slot.proofs.Driven.{all_is_driven}
use Rattle.apd_world.proofs.Moving.{moved, moved_wants, MovedAt}

-- the outs of what happened, at a radio
follows_run : (confs : List Conf) (es : List Happening) (s : State) (b : Bssid) → IsSome (conf_at confs b) → driver_after_all (outs_run (Radio b) s confs es) (aid_at s b) ≡ aid_at (run s confs es) b
follows_run confs [] s b configured = refl
follows_run confs (e ∷ es) s b configured =
    driver_after_all-append (outs_to (Radio b) (verdict s confs e).outs) (outs_run (Radio b) (verdict s confs e).state confs es) (aid_at s b)
    ∙ ap (driver_after_all (outs_run (Radio b) (verdict s confs e).state confs es)) (λ i a. follows_in s confs e b configured a i)
    ∙ follows_run confs es (verdict s confs e).state b configured

module _ {D R : Type 0} (radio : RadioModel R) (old new : World D R) where
  -- a core goes on, and each slot gets what its radio is given
  module _ (es : List Happening) (gives : Recipient → List Out) (off : Bssid → List Out) (goes : Goes es gives (durable_of old).core (durable_of new).core)
      (moves : (b : Bssid) → MovedAt radio old new b (off b) (gives (Radio b))) where
    abbrev ca : CoreState
    ca = (durable_of old).core

    abbrev cb : CoreState
    cb = (durable_of new).core

    goes_on : AreFollowing old → (b : Bssid) → IsSome (conf_at cb.confs b) → (now : Slot R) → slot_at (slots_of new) b ≡ Some now → driver_after_all (held_for (Radio b) cb) (maps.get (wanted_then now)) ≡ aid_at (front_of cb) b
    goes_on before b configured now at =
        let was = moved_wants (off b) (gives (Radio b)) (slot_at (slots_of old) b) (slot_at (slots_of new) b) now (moves b) at in
        let m : DriverMap = maps.get (wanted_then was.0) in
        let known : IsSome (conf_at ca.confs b) = subst (λ (cs : List Conf). IsSome (conf_at cs b)) goes.confs configured in
        let outs = outs_run (Radio b) (front_of ca) ca.confs es in
        let base : driver_after_all (held_for (Radio b) ca) m ≡ aid_at (front_of ca) b = λ i a. before b known was.0 was.1 a i in
        ap (driver_after_all (held_for (Radio b) cb)) (ap maps.get was.2 ∙ all_is_driven (gives (Radio b)) (wanted_then was.0))
        ∙ sym (driver_after_all-append (gives (Radio b)) (held_for (Radio b) cb) m) ∙ ap (λ xs. driver_after_all xs m) (goes.outs (Radio b))
        ∙ driver_after_all-append (held_for (Radio b) ca) outs m ∙ ap (driver_after_all outs) base ∙ follows_run ca.confs es (front_of ca) b known ∙ ap (λ (s : State). aid_at s b) (sym goes.front)

    pub follow_on : AreFollowing old → AreFollowing new
    follow_on before b configured now at a = λ i. goes_on before b configured now at i a

  pub following : (step : Step) (told : Told) → IsWorldStep radio step told old new → AreFollowing old → AreFollowing new
  following step told h =
      follow_on (step_happenings (durable_of old).core.confs (durable_of old).core.heard step h.inside) (λ r. handed_outs r step h.inside) (λ b. applied_outs b step told) h.durable.goes
      (λ b. moved radio old new b step h.inside told h.joins)
