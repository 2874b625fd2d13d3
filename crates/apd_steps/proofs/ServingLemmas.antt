-- Steps of a radio's slot, one after another.
use Rattle.std.proofs.Common.{◌≡◌, ℕ, List, [], ◌∷◌, ◌++◌, Option, None, Result, Ok, Err, refl, sym, ap, subst}
use Rattle.std.specs.Prelude.{IfOk, OnErr, OnOk}
use Rattle.std.specs.Option.{option_map}
use Rattle.apd_base.specs.Failures.{HasRisen}
use Rattle.apd_radio.specs.Frames.{Polls}
use Rattle.apd_radio.specs.Model.{RadioModel}
use Rattle.apd_radio.specs.declared.radio.RadioFault.{RadioFault}
use Rattle.apd_radio.specs.declared.radio.RadioFault.TheVariants as radio_fault
use Rattle.apd_core.specs.Core.{CoreState}
use Rattle.apd_slot.specs.Slots.{radio_of, SameButRadio}
use Rattle.apd_slot.specs.declared.mending.Mending.{Mending}
use Rattle.apd_slot.specs.declared.slot.Slot.{Slot}
use Rattle.apd_steps.specs.Calls.{Made, no_core}
use Rattle.apd_steps.specs.Serving.{Apply, AreInOrder, AreRadioSteps, Begin, ComesNext, Does, EndsAtFault, EndsMended, GoOn, Hand, IsPolled, IsRadioRun, IsTended, LeavesFrames, RadioStep, Receive, Silence}

-- what a poll told, by the bytes of its frame
abbrev pub frame_got : {V : Type 0} → (V → List ℕ) → Result (Option V) RadioFault → Result (Option (List ℕ)) RadioFault
frame_got bytes (Ok got) = Ok (option_map bytes got)
frame_got bytes (Err fault) = Err fault

-- ---- in order
pub no_fault_on : (more before : List RadioStep) → ¬ EndsAtFault more → ¬ EndsAtFault before → ¬ EndsAtFault (more ++ before)
no_fault_on [] before next first = first
no_fault_on (step ∷ more) before next first = next

mended_on : (more before : List RadioStep) → EndsMended more → EndsMended (more ++ before)
mended_on [] before ends = absurd ends
mended_on (step ∷ more) before ends = ends

comes_on : (step : RadioStep) (more before : List RadioStep) → ComesNext step more → ¬ EndsAtFault before → ComesNext step (more ++ before)
comes_on (Receive frame moment answer) more before next first = no_fault_on more before next first
comes_on (Silence fault) more before next first = no_fault_on more before next first
comes_on (Hand told) more before next first = no_fault_on more before next first
comes_on (Apply told) more before next first = mended_on more before next
comes_on Begin more before next first = tt
comes_on (GoOn tried up) more before next first = no_fault_on more before next first

pub order_on : (more before : List RadioStep) → AreInOrder more → AreInOrder before → ¬ EndsAtFault before → AreInOrder (more ++ before)
order_on [] before next first ends = first
order_on (step ∷ more) before next first ends = (comes_on step more before next.0 ends, order_on more before next.1 first ends)

module _ {R : Type 0} (radio : RadioModel R) (frames : R → Option (List (List ℕ))) where
  -- ---- a poll
  module _ {V : Type 0} (bytes : V → List ℕ) (old new : Slot R) where
    left_by : (told : Result (Option V) RadioFault) → IfOk told (λ got. Polls (frames (radio_of old)) (option_map bytes got) (frames (radio_of new)))
        → OnErr told ((frames (radio_of old) ≡ None) × (frames (radio_of new) ≡ None)) → LeavesFrames radio frames (frame_got bytes told) old new
    left_by (Ok got) next unknown = next
    left_by (Err fault) next unknown = unknown

    stays_by : (told : Result (Option V) RadioFault) → OnOk told (radio.faults (radio_of new) ≡ radio.faults (radio_of old))
        → OnOk (frame_got bytes told) (radio.faults (radio_of new) ≡ radio.faults (radio_of old))
    stays_by (Ok got) stays = stays
    stays_by (Err fault) stays = stays

    same_fault : (told : Result (Option V) RadioFault) (fault : RadioFault) → frame_got bytes told ≡ Err fault → told ≡ Err fault
    same_fault (Ok got) fault is = absurd (let no : ⊥ = cc in no)
    same_fault (Err other) fault is = let same : other ≡ fault = cc in ap Err same

    pub polled : (told : Result (Option V) RadioFault)
        → IfOk told (λ got. Polls (frames (radio_of old)) (option_map bytes got) (frames (radio_of new)))
        → OnErr told ((frames (radio_of old) ≡ None) × (frames (radio_of new) ≡ None))
        → radio.stations (radio_of new) ≡ radio.stations (radio_of old)
        → OnOk told (radio.faults (radio_of new) ≡ radio.faults (radio_of old))
        → (told ≡ Err radio_fault.NoMemory → radio.faults (radio_of new) ≡ radio.faults (radio_of old))
        → (told ≡ Err radio_fault.Device → HasRisen (radio.faults (radio_of old)) (radio.faults (radio_of new)))
        → radio.sent (radio_of new) ≡ radio.sent (radio_of old) → SameButRadio old new
        → IsPolled radio frames (frame_got bytes told) old new
    polled told next unknown installed stays short device sent same = record {
      next = left_by told next unknown;
      installed = installed;
      stays = stays_by told stays;
      device = λ is. device (same_fault told radio_fault.Device is);
      short = λ is. short (same_fault told radio_fault.NoMemory is);
      sent = sent;
      same = same;
    }

  module _ {A : Type 0} (made : Made A) where
    -- ---- one after another
    abbrev pub serve_none : (core : A) (slot : Slot R) (mending : Mending R) → IsRadioRun radio frames made core core slot slot mending mending
    serve_none core slot mending = record { steps = []; are = (refl, refl, refl); order = tt; mended = λ no. no }

    abbrev pub serve_one : (step : RadioStep) (core after : A) (old new : Slot R) (mending left : Mending R) → ComesNext step []
        → ¬ EndsAtFault (step ∷ []) → Does radio frames made step core after old new mending left
        → IsRadioRun radio frames made core after old new mending left
    serve_one step core after old new mending left next ends does =
        record { steps = step ∷ []; are = (core, old, mending, (refl, refl, refl), does); order = (next, tt); mended = ends }

    abbrev pub serve_more : (step : RadioStep) (core mid after : A) (old between new : Slot R) (mending then left : Mending R)
        (first : IsRadioRun radio frames made core mid old between mending then) → ComesNext step first.steps
        → ¬ EndsAtFault (step ∷ first.steps) → Does radio frames made step mid after between new then left
        → IsRadioRun radio frames made core after old new mending left
    serve_more step core mid after old between new mending then left first next ends does = record {
      steps = step ∷ first.steps;
      are = (mid, between, then, first.are, does);
      order = (next, first.order);
      mended = ends;
    }

    pub served_joined : (more before : List RadioStep) (core mid after : A) (old between new : Slot R) (mending then left : Mending R)
        → AreRadioSteps radio frames made before core mid old between mending then
        → AreRadioSteps radio frames made more mid after between new then left
        → AreRadioSteps radio frames made (more ++ before) core after old new mending left
    served_joined [] before core mid after old between new mending then left first next =
        subst (λ (z : A). AreRadioSteps radio frames made before core z old new mending left) (sym next.0)
        (subst (λ (z : Slot R). AreRadioSteps radio frames made before core mid old z mending left) (sym next.1)
        (subst (λ (z : Mending R). AreRadioSteps radio frames made before core mid old between mending z) (sym next.2) first))
    served_joined (step ∷ more) before core mid after old between new mending then left first next = (
      next.0,
      next.1,
      next.2,
      served_joined more before core mid next.0 old between next.1 mending then next.2 first next.3,
      next.4,
    )

    abbrev pub serve_on : (core mid after : A) (old between new : Slot R) (mending then left : Mending R)
        → IsRadioRun radio frames made core mid old between mending then → IsRadioRun radio frames made mid after between new then left
        → IsRadioRun radio frames made core after old new mending left
    serve_on core mid after old between new mending then left first next = record {
      steps = next.steps ++ first.steps;
      are = served_joined next.steps first.steps core mid after old between new mending then left first.are next.are;
      order = order_on next.steps first.steps next.order first.order first.mended;
      mended = no_fault_on next.steps first.steps next.mended first.mended;
    }

    -- ---- what makes no call of a core is so beside any
    does_beside : (step : RadioStep) (core : A) (x y : Unit {0}) (old new : Slot R) (mending left : Mending R)
        → Does radio frames no_core step x y old new mending left
        → Does radio frames made step core core old new mending left
    does_beside (Receive frame moment answer) core x y old new mending left does = absurd does.1.2
    does_beside (Silence fault) core x y old new mending left does = (does.0, refl, does.2)
    does_beside (Hand told) core x y old new mending left does = absurd does.0
    does_beside (Apply told) core x y old new mending left does = (does.0, refl, does.2)
    does_beside Begin core x y old new mending left does = (does.0, refl)
    does_beside (GoOn tried up) core x y old new mending left does = (does.0, does.1, refl)

    steps_beside : (steps : List RadioStep) (core : A) (x y : Unit {0}) (old new : Slot R) (mending left : Mending R)
        → AreRadioSteps radio frames no_core steps x y old new mending left
        → AreRadioSteps radio frames made steps core core old new mending left
    steps_beside [] core x y old new mending left are = (refl, are.1, are.2)
    steps_beside (step ∷ steps) core x y old new mending left are = (
      core,
      are.1,
      are.2,
      steps_beside steps core x are.0 old are.1 mending are.2 are.3,
      does_beside step core are.0 y are.1 new are.2 left are.4,
    )

    pub tended_beside : (core : A) (old new : Slot R) (mending left : Mending R) → IsTended radio frames old new mending left
        → IsRadioRun radio frames made core core old new mending left
    tended_beside core old new mending left tended =
        record {
          steps = tended.steps;
          are = steps_beside tended.steps core tt tt old new mending left tended.are;
          order = tended.order;
          mended = tended.mended;
        }

  -- ---- what is known of one is known of the other
  module _ {A B : Type 0} (made : Made A) (also : Made B) (seen : A → B)
      (so : (call : CoreState → CoreState → Type 0) (core after : A) → made call core after → also call (seen core) (seen after)) where
    does_as : (step : RadioStep) (core after : A) (old new : Slot R) (mending left : Mending R)
        → Does radio frames made step core after old new mending left
        → Does radio frames also step (seen core) (seen after) old new mending left
    does_as (Receive frame moment answer) core after old new mending left does =
        (does.0, (does.1.0, does.1.1, so _ core after does.1.2), does.2)
    does_as (Silence fault) core after old new mending left does = (does.0, ap seen does.1, does.2)
    does_as (Hand told) core after old new mending left does = (so _ core after does.0, does.1)
    does_as (Apply told) core after old new mending left does = (does.0, ap seen does.1, does.2)
    does_as Begin core after old new mending left does = (does.0, ap seen does.1)
    does_as (GoOn tried up) core after old new mending left does = (does.0, does.1, ap seen does.2)

    steps_as : (steps : List RadioStep) (core after : A) (old new : Slot R) (mending left : Mending R)
        → AreRadioSteps radio frames made steps core after old new mending left
        → AreRadioSteps radio frames also steps (seen core) (seen after) old new mending left
    steps_as [] core after old new mending left are = (ap seen are.0, are.1, are.2)
    steps_as (step ∷ steps) core after old new mending left are = (
      seen are.0,
      are.1,
      are.2,
      steps_as steps core are.0 old are.1 mending are.2 are.3,
      does_as step are.0 after are.1 new are.2 left are.4,
    )

    pub served_as : (core after : A) (old new : Slot R) (mending left : Mending R)
        → IsRadioRun radio frames made core after old new mending left
        → IsRadioRun radio frames also (seen core) (seen after) old new mending left
    served_as core after old new mending left served =
        record {
          steps = served.steps;
          are = steps_as served.steps core after old new mending left served.are;
          order = served.order;
          mended = served.mended;
        }
