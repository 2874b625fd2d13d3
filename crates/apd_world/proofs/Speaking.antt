-- A core that has failed stays so; and no frame is from the broadcast address, so no row ever has it.
use Rattle.std.proofs.Common.{Bool, true, inl, inr, ⊎_elim, ◌≡◌, ℕ, List, [], Option, Some, None, Result, Ok, Err, refl, sym, ap, subst, ◌∙◌}
use Rattle.std.proofs.lemmas.List.Elements.{All-nil, All-cons}
use Rattle.apd_world.proofs.Words.{Accept, Accepted, Addr, Answered, Apply, Ask, Batch, Bssid, Call, Called, Conf, Configure, CoreState, DurableCore, Hand, Handed, Happening, Input, IsCalled, IsNext, IsTakenUp, IsWorldStep, LastHeard, Loaded, Moment, NoMemory, Nothing, Publish, Published, QuietReason, Radio, RadioModel, Reception, Sound, Step, StoreFault, Take, Tells, Told, World, after_request, due_row, durable_of, step_happenings, reception_happenings, has_failed_after, front_of, after_handing_out, happening_of, state_after, verdict, waiting_batch}
use Rattle.apd_frame.specs.Contents.{Contents}
use Rattle.apd_frame.specs.Outcome.{outcome}
use Rattle.apd_frame.specs.declared.ignored.Ignored.{Ignored}
use Rattle.apd_frame.proofs.Senders.{sender_not_broadcast}
use Rattle.apd_mlme.specs.laws.Broadcast.{AreFromStations, IsFromStation, NoBroadcastRow}
use Rattle.apd_event.specs.Happening.{Heard, Kick, ListEdit, Expire, happening}
use Rattle.apd_mlme.specs.laws.Outs.{OutsAreTrueForAll}
use Rattle.apd_mlme.proofs.AdmissionLemmas.{run_broadcast}
use Rattle.apd_mlme.proofs.TrueOutsLemmas.{verdict_is_true_for_all}
use Rattle.apd_mlme.proofs.VerdictLemmas.{run_sound}
use Rattle.apd_core.specs.Requests.{expiry, order_happening, frame_happening}
use Rattle.apd_core.specs.declared.input.Input.TheVariants as input
use Rattle.apd_core.specs.declared.ticket.Accepted.{Accepted as CoreAccepted}
use Rattle.apd_core.specs.declared.ticket.Accepted.TheVariants as core_accepted
use Rattle.apd_store.specs.declared.fault.StoreFault.TheVariants as store_fault
use Rattle.apd_steps.specs.Calls.{TakeTells, exactly}
use Rattle.apd_steps.specs.Committing.{CoreGoes}
use Rattle.apd_world.specs.declared.step.Reception.TheVariants as reception
use Rattle.apd_world.proofs.DurableSteps.{none_some}

-- ---- what a batch taken does to a core, and a call
pub taken_next : {D : Type 0} (answer : Result (Unit {0}) StoreFault) (old new : DurableCore D) → (h : IsTakenUp answer old new)
    → IsNext h.1.load.batch old new.core
taken_next answer old new h =
    let batch = h.1.load.batch in
    ⊎_elim
    (λ waits. ⊎_elim (λ next. inl (next, waits.2)) (λ next. none_some h.0 batch waits.1 next.1) h.1.load.next)
    (λ gives. ⊎_elim
    (λ next. none_some (waiting_batch old.committer) batch gives.0 next)
    (λ next.
    let tells = subst (λ (given : Option Batch). exactly (TakeTells (Ok given)) old.core new.core) next.1 gives.1 in
    inr (gives.0, tells.1.0, tells.1.1))
    h.1.load.next)
    h.1.from

-- the core fails with the device
abbrev pub after_call : Result (Unit {0}) StoreFault → CoreState → CoreState
after_call result s = record s { failed = has_failed_after result s.failed }

core_goes : (answer : Result (Unit {0}) StoreFault) (core after : CoreState) → CoreGoes exactly answer core after
    → after ≡ after_call answer core
core_goes (Ok x) core after same = same
core_goes (Err store_fault.Device) core after is = is.1
core_goes (Err fault) core after same = same

pub called_core : {D : Type 0} (answer : Result (Unit {0}) StoreFault) (old new : DurableCore D) → IsCalled answer old new
    → new.core ≡ after_call answer old.core
called_core answer old new h = core_goes answer old.core new.core h.core_goes

pub next_core : {D : Type 0} (batch : Batch) (old : DurableCore D) (core : CoreState) → IsNext batch old core → core ≡ record old.core { flight = core.flight }
next_core batch old core next = ⊎_elim (λ waits. let same : old.core ≡ core = sym waits.1 in waits.1 ∙ (λ i. record old.core { flight = (same i).flight })) (λ taken. taken.2.only) next

-- ---- a core that has failed stays so
request_fails_none : (s : CoreState) (m : Moment) (asked : Result Happening QuietReason) (a : CoreAccepted) → (state_after s m asked a).failed ≡ s.failed
request_fails_none s m (Ok h) (core_accepted.Entry t) = refl
request_fails_none s m (Ok h) (core_accepted.Quiet reason) = refl
request_fails_none s m (Ok h) a = refl
request_fails_none s m (Err reason) a = refl

still_failed : (result : Result (Unit {0}) StoreFault) (failed : Bool) → failed ≡ true → has_failed_after result failed ≡ true
still_failed (Ok x) failed was = was
still_failed (Err store_fault.Device) failed was = refl
still_failed (Err fault) failed was = was

module _ {D : Type 0} (old new : DurableCore D) where
  abbrev same_failed : new ≡ old → old.core.failed ≡ true → new.core.failed ≡ true
  same_failed same was = ap (λ (w : DurableCore D). w.core.failed) same ∙ was

  core_failed : (core : CoreState) → new ≡ record old { core = core } → core.failed ≡ old.core.failed → old.core.failed ≡ true → new.core.failed ≡ true
  core_failed core only same was = ap (λ (w : DurableCore D). w.core.failed) only ∙ same ∙ was

  pub stays_failed : (step : Step) (told : Told) → Tells step told old new → old.core.failed ≡ true → new.core.failed ≡ true
  stays_failed (Accept i m) (Accepted answer) h = core_failed (after_request old.core m i) h.only (request_fails_none old.core m (happening_of old.core.confs old.core.heard m i) _)
  stays_failed Take (Loaded result) h = λ was. ap (λ (s : CoreState). s.failed) (next_core h.1.load.batch old new.core (taken_next result old new h)) ∙ was
  stays_failed Take Nothing h = same_failed h.1
  stays_failed Take NoMemory h = same_failed h.1
  stays_failed Call (Called r) h = λ was. ap (λ (s : CoreState). s.failed) (called_core r old new h) ∙ still_failed r old.core.failed was
  stays_failed Call Nothing h = same_failed h.1
  stays_failed Publish (Published (Ok x)) h = λ was. ap (λ (s : CoreState). s.failed) h.1.tells.1.1 ∙ was
  stays_failed Publish (Published (Err fault)) h = λ was. ap (λ (s : CoreState). s.failed) h.1.tells.1.1 ∙ was
  stays_failed Publish Nothing h = same_failed h.1
  stays_failed (Hand r) (Handed outs) h = core_failed (after_handing_out r old.core) h.only refl
  stays_failed (Hand r) NoMemory h = same_failed h.1
  stays_failed (Hand (Radio b)) Nothing h = same_failed h
  stays_failed (Ask q) (Answered answer) h = same_failed h.only
  stays_failed (Ask q) NoMemory h = same_failed h
  stays_failed (Apply b) Nothing h = same_failed h
  stays_failed (Accept i m) NoMemory h = same_failed h.1
  stays_failed step told h = absurd h

-- ---- whom a request's frame is from
received : (b : Bssid) (bytes : List ℕ) (o : Result Contents Ignored) → outcome bytes b ≡ o → (h : Happening) → frame_happening b o ≡ Ok h → IsFromStation h
received b bytes (Ok frame) e h is = let same : Heard b frame ≡ h = cc in subst IsFromStation same (sender_not_broadcast bytes b frame e)
received b bytes (Err reason) e h is = cc

ordered_from : (event h : Happening) → order_happening event ≡ Ok h → IsFromStation h
ordered_from (Kick b to reason deauth tag) h is = let same : Kick b to reason deauth tag ≡ h = cc in subst IsFromStation same tt
ordered_from (ListEdit b which edit tag) h is = let same : ListEdit b which edit tag ≡ h = cc in subst IsFromStation same tt
ordered_from (Heard b frame) h is = cc
ordered_from (Expire b a) h is = cc
ordered_from (Configure b accept deny) h is = cc

expired : (o : Option (Bssid × Addr)) (h : Happening) → expiry o ≡ Ok h → IsFromStation h
expired None h is = cc
expired (Some row) h is = let same : Expire row.0 row.1 ≡ h = cc in subst IsFromStation same tt

pub from_station : (confs : List Conf) (heard : LastHeard) (m : Moment) (i : Input) (h : Happening) → happening_of confs heard m i ≡ Ok h → IsFromStation h
from_station confs heard m (input.Received b bytes) h is = received b bytes.now (outcome bytes.now b) refl h is
from_station confs heard m (input.Order event) h is = ordered_from (happening event) h is
from_station confs heard m input.Tick h is = expired (due_row confs m heard) h is
from_station confs heard m (input.Configure b accept deny) h is = let same : Configure b accept.now deny.now ≡ h = cc in subst IsFromStation same tt

by_answer : (answer : Reception) (asked : Result Happening QuietReason) → ((h : Happening) → asked ≡ Ok h → IsFromStation h) → AreFromStations (reception_happenings answer asked)
by_answer (reception.Entry number) (Ok h) each = All-cons IsFromStation h [] (each h refl) (All-nil IsFromStation)
by_answer (reception.Entry number) (Err reason) each = All-nil IsFromStation
by_answer (reception.Quiet reason) asked each = All-nil IsFromStation
by_answer reception.Busy asked each = All-nil IsFromStation
by_answer reception.Stopped asked each = All-nil IsFromStation

by_step : (confs : List Conf) (heard : LastHeard) (step : Step) (told : Told) → AreFromStations (step_happenings confs heard step told)
by_step confs heard (Accept i m) (Accepted answer) = by_answer answer (happening_of confs heard m i) (from_station confs heard m i)
by_step confs heard step told = All-nil IsFromStation

module _ {D R : Type 0} (radio : RadioModel R) (step : Step) (told : Told) (old new : World D R) (made : IsWorldStep radio step told old new) where
  abbrev before : CoreState
  before = (durable_of old).core

  abbrev happened : List Happening
  happened = step_happenings before.confs before.heard step made.inside

  pub no_broadcast_row : NoBroadcastRow (front_of before) → NoBroadcastRow (front_of (durable_of new).core)
  no_broadcast_row none = subst NoBroadcastRow (sym made.durable.goes.front) (run_broadcast before.confs happened (front_of before) (by_step before.confs before.heard step made.inside) none)

  pub sound_then : Sound (front_of before) → Sound (front_of (durable_of new).core)
  sound_then sound = subst Sound (sym made.durable.goes.front) (run_sound before.confs happened (front_of before) made.durable.goes.fit sound)

pub so_to_all : (s : CoreState) (m : Moment) (i : Input) (h : Happening) → Sound (front_of s) → NoBroadcastRow (front_of s) → happening_of s.confs s.heard m i ≡ Ok h
    → OutsAreTrueForAll (verdict (front_of s) s.confs h).state (verdict (front_of s) s.confs h).outs
so_to_all s m i h sound none is = verdict_is_true_for_all (front_of s) s.confs sound h (record { rows = none; sender = from_station s.confs s.heard m i h is })
