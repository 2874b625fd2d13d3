-- What a radio's worker does to its slot and its seat, by its steps.
use Rattle.std.proofs.Common.{◌≡◌, ℕ, List, [], ◌∷◌, Option, Some, None, Result, Ok, Err, refl, sym, ap, subst, ◌∙◌, arith}
use Rattle.std.proofs.lemmas.List.{append-nil}
use Rattle.std.specs.declared.alloc.AllocError.{AllocError}
use Rattle.apd_base.specs.declared.moment.Moment.{Moment}
use Rattle.apd_core.specs.declared.input.Input.{Input}
use Rattle.apd_core.specs.declared.ticket.Accepted.{Accepted}
use Rattle.apd_radio.specs.Model.{RadioModel}
use Rattle.apd_radio.specs.declared.radio.RadioFault.{RadioFault}
use Rattle.apd_slot.specs.Slots.{bssid_of, queue_of}
use Rattle.apd_slot.specs.declared.mending.Mending.{Mending}
use Rattle.apd_slot.specs.declared.slot.Slot.{Slot}
use Rattle.apd_steps.specs.Calls.{Made, SubmitTells}
use Rattle.apd_steps.specs.Handing.{HandsTo}
use Rattle.apd_steps.specs.Serving.{Apply, AreRadioSteps, Begin, Does, GoOn, Hand, IsPolled, IsRadioRun, IsReception, RadioStep, Receive, Silence}
use Rattle.apd_steps.proofs.ServingLemmas.{frame_got, serve_one}
use Rattle.apd_desk.specs.Asking.{by_seat}
use Rattle.apd_desk.specs.Giving.{IsGivenOn, IsServed}
use Rattle.apd_desk.specs.SeatProgress.{IsLater}
use Rattle.apd_desk.specs.Serving.{HasServed}
use Rattle.apd_desk.specs.declared.seat.Seat.{Seat}
use Rattle.apd_desk.proofs.Giving.{given_on, hands_given, mended_served, next_served, served, unserved}

later_on : {L : Type 0} (x y z : Seat L) → IsLater x y → IsLater y z → IsLater x z
later_on x y z first next = (omega (arith, first, next), omega (arith, first, next))

same_later : {L : Type 0} (x y : Seat L) → y ≡ x → IsLater x y
same_later x y same = subst (λ (z : Seat _). IsLater x z) (sym same) (omega arith, omega arith)

module _ {R : Type 0} (radio : RadioModel R) (frames : R → Option (List (List ℕ))) where
  polled_served : (got : _) (old new : Slot R) → IsPolled radio frames got old new → IsServed radio [] old new
  polled_served got old new is =
      served radio [] [] old new is.same.bssid
      (λ exact up. is.installed ∙ exact (sym is.same.up ∙ up) ∙ sym is.same.wanted)
      (append-nil (queue_of old) ∙ sym is.same.queue) is.same.wanted

module _ {L R : Type 0} (radio : RadioModel R) (frames : R → Option (List (List ℕ))) where
  step_given : (step : RadioStep) (seat later : Seat L) (old new : Slot R) (mending left : Mending R)
      → Does radio frames by_seat step seat later old new mending left → IsGivenOn radio old new
  step_given (Receive frame moment answer) seat later old new mending left does = ([], polled_served radio frames _ old new does.0)
  step_given (Silence fault) seat later old new mending left does = ([], polled_served radio frames _ old new does.0)
  step_given (Hand told) seat later old new mending left does =
      let h = does.0 in hands_given radio (bssid_of old) told h.0 h.1 old new h.2.1
  step_given (Apply told) seat later old new mending left does = ([], next_served radio told old new does.0.applies)
  step_given Begin seat later old new mending left does = ([], mended_served radio frames _ old new does.0.mended)
  step_given (GoOn tried up) seat later old new mending left does = ([], mended_served radio frames _ old new does.0.mended)

  step_later : (step : RadioStep) (seat later : Seat L) (old new : Slot R) (mending left : Mending R)
      → Does radio frames by_seat step seat later old new mending left → IsLater seat later
  step_later (Receive frame moment answer) seat later old new mending left does = does.1.2.3
  step_later (Silence fault) seat later old new mending left does = same_later seat later does.1
  step_later (Hand told) seat later old new mending left does = does.0.3
  step_later (Apply told) seat later old new mending left does = same_later seat later does.1
  step_later Begin seat later old new mending left does = same_later seat later does.1
  step_later (GoOn tried up) seat later old new mending left does = same_later seat later does.2

  steps_given : (steps : List RadioStep) (seat later : Seat L) (old new : Slot R) (mending left : Mending R)
      → AreRadioSteps radio frames by_seat steps seat later old new mending left → IsGivenOn radio old new
  steps_given [] seat later old new mending left are =
      ([], subst (λ (z : Slot R). IsServed radio [] old z) (sym are.1) (unserved radio old))
  steps_given (step ∷ steps) seat later old new mending left are =
      given_on radio old are.1 new (steps_given steps seat are.0 old are.1 mending are.2 are.3) (step_given step are.0 later are.1 new are.2 left are.4)

  steps_later : (steps : List RadioStep) (seat later : Seat L) (old new : Slot R) (mending left : Mending R)
      → AreRadioSteps radio frames by_seat steps seat later old new mending left → IsLater seat later
  steps_later [] seat later old new mending left are = same_later seat later are.0
  steps_later (step ∷ steps) seat later old new mending left are =
      later_on seat are.0 later (steps_later steps seat are.0 old are.1 mending are.2 are.3) (step_later step are.0 later are.1 new are.2 left are.4)

  pub run_given : (seat later : Seat L) (old new : Slot R) (mending left : Mending R)
      → IsRadioRun radio frames by_seat seat later old new mending left → IsGivenOn radio old new
  run_given seat later old new mending left run = steps_given run.steps seat later old new mending left run.are

  pub run_later : (seat later : Seat L) (old new : Slot R) (mending left : Mending R)
      → IsRadioRun radio frames by_seat seat later old new mending left → IsLater seat later
  run_later seat later old new mending left run = steps_later run.steps seat later old new mending left run.are

  -- the seat is that of the core that was asked
  pub has_served : (spares : List R) (seat later first last : Seat L) (old new : Slot R) (mending left : Mending R) → first ≡ seat → later ≡ last
      → mending.spares.items ≡ spares → mending.tries ≡ 0 → IsRadioRun radio frames by_seat first last old new mending left
      → HasServed radio frames spares seat later old new
  has_served spares seat later first last old new mending left begins ends unused begun run = record {
    mending = mending;
    unused = unused;
    begun = begun;
    left = left;
    run =
        subst (λ (z : Seat L). IsRadioRun radio frames by_seat z later old new mending left) begins
        (subst (λ (z : Seat L). IsRadioRun radio frames by_seat first z old new mending left) (sym ends) run);
  }

-- ---- the steps that the worker makes of any core
module _ {R : Type 0} (radio : RadioModel R) (frames : R → Option (List (List ℕ))) where
  pub frame_told : {V : Type 0} (bytes : V → List ℕ) (told : Result (Option V) RadioFault) (got : Option V) (frame : V) (old new : Slot R)
      → told ≡ Ok got → got ≡ Some frame → IsPolled radio frames (frame_got bytes told) old new → IsPolled radio frames (Ok (Some (bytes frame))) old new
  frame_told bytes told got frame old new ok some is =
      subst (λ (z : Result (Option _) RadioFault). IsPolled radio frames (frame_got bytes z) old new) (ok ∙ ap Ok some) is

  module _ {A : Type 0} (made : Made A) where
    pub received : (frame : List ℕ) (moment : Moment) (answer : Result Accepted AllocError) (request : Input) (core after : A) (old new : Slot R)
        (mending : Mending R) → IsPolled radio frames (Ok (Some frame)) old new → made (SubmitTells request moment answer) core after
        → IsReception (bssid_of old) frame request → IsRadioRun radio frames made core after old new mending mending
    received frame moment answer request core after old new mending polled submitted is =
        serve_one radio frames made (Receive frame moment answer) core after old new mending mending (λ no. no) (λ no. no)
        (polled, (request, is, submitted), refl)

    pub none_received : {V : Type 0} (bytes : V → List ℕ) (told : Result (Option V) RadioFault) (got : Option V) (core : A) (old new : Slot R)
        (mending : Mending R) → told ≡ Ok got → got ≡ None → IsPolled radio frames (frame_got bytes told) old new
        → IsRadioRun radio frames made core core old new mending mending
    none_received bytes told got core old new mending ok none is =
        serve_one radio frames made (Silence None) core core old new mending mending (λ no. no) (λ no. no)
        (subst (λ (z : Result (Option _) RadioFault). IsPolled radio frames (frame_got bytes z) old new) (ok ∙ ap Ok none) is, refl, refl)

    pub not_received : {V : Type 0} (bytes : V → List ℕ) (told : Result (Option V) RadioFault) (fault : RadioFault) (core : A) (old new : Slot R)
        (mending : Mending R) → told ≡ Err fault → IsPolled radio frames (frame_got bytes told) old new
        → IsRadioRun radio frames made core core old new mending mending
    not_received bytes told fault core old new mending err is =
        serve_one radio frames made (Silence (Some fault)) core core old new mending mending (λ no. no) (λ no. no)
        (subst (λ (z : Result (Option _) RadioFault). IsPolled radio frames (frame_got bytes z) old new) err is, refl, refl)

    abbrev pub handed : (told : Result ℕ AllocError) (core after : A) (old new : Slot R) (mending : Mending R)
        → made (λ c d. HandsTo (bssid_of old) told c d old new) core after → IsRadioRun radio frames made core after old new mending mending
    handed told core after old new mending hands =
        serve_one radio frames made (Hand told) core after old new mending mending (λ no. no) (λ no. no) (hands, refl)
