-- Steps of a radio's slot, its mending, and the core whose requests and outs go over it, one after another (own).
use Rattle.std.specs.Prelude.{◌≡◌, ℕ, Bool, true, false, List, [], ◌∷◌, Option, Some, None, Result, Ok, Err, OnOk}
use Rattle.std.specs.declared.alloc.AllocError.{AllocError}
use Rattle.apd_base.specs.Failures.{HasRisen}
use Rattle.apd_base.specs.declared.address.Bssid.{Bssid}
use Rattle.apd_base.specs.declared.moment.Moment.{Moment}
use Rattle.apd_core.specs.declared.input.Input.{Input}
use Rattle.apd_core.specs.declared.input.Input.TheVariants as input
use Rattle.apd_core.specs.declared.ticket.Accepted.{Accepted}
use Rattle.apd_mlme.specs.declared.decision.Out.{Out}
use Rattle.apd_radio.specs.Frames.{Polls}
use Rattle.apd_radio.specs.Model.{RadioModel}
use Rattle.apd_radio.specs.declared.radio.RadioFault.{RadioFault}
use Rattle.apd_radio.specs.declared.radio.RadioFault.TheVariants as radio_fault
use Rattle.apd_slot.specs.Applying.{AppliesNext}
use Rattle.apd_slot.specs.Mending.{Begins, GoesOn}
use Rattle.apd_slot.specs.Slots.{bssid_of, is_up_of, radio_of, SameButRadio}
use Rattle.apd_slot.specs.declared.mending.Mending.{Mending}
use Rattle.apd_slot.specs.declared.slot.Slot.{Slot}
use Rattle.apd_slot.specs.declared.slot.SlotFault.{SlotFault}
use Rattle.apd_slot.specs.declared.slot.SlotFault.TheVariants.{WentDown}
use Rattle.apd_steps.specs.Calls.{Made, SubmitTells, no_core}
use Rattle.apd_steps.specs.Handing.{HandsTo}

-- a step, by what was told
pub data RadioStep : Type 0 where
  -- a frame was received, and submitted at a moment
  Receive : List ℕ → Moment → Result Accepted AllocError → RadioStep
  -- none was received: none waits, or for this fault
  Silence : Option RadioFault → RadioStep
  -- what is ready went to the slot
  Hand : Result ℕ AllocError → RadioStep
  -- the first of the outs that wait was applied
  Apply : Option (Result (Out × Result (Unit {0}) SlotFault) AllocError) → RadioStep
  -- the slot began to be mended
  Begin : RadioStep
  -- it went on to be: whether a try was left, and whether it is up then
  GoOn : Bool → Bool → RadioStep

-- the request that a frame is, received by the radio of a BSSID
abbrev pub IsReception : Bssid → List ℕ → Input → Type 0
IsReception b frame (input.Received bssid bytes) = (bssid ≡ b) × (bytes.now ≡ frame)
IsReception b frame i = ⊥

-- ---- in what order
-- the slot went down at it
abbrev pub IsFault : RadioStep → Type 0
IsFault (Apply (Some (Ok applied))) = applied.1 ≡ Err WentDown
IsFault step = ⊥

-- it went on mending, and was no try in vain
abbrev pub IsMended : RadioStep → Type 0
IsMended (GoOn true false) = ⊥
IsMended (GoOn tried up) = Unit {0}
IsMended step = ⊥

-- the same of the last one of steps, the last of which stands first
abbrev pub EndsAtFault : List RadioStep → Type 0
EndsAtFault [] = ⊥
EndsAtFault (step ∷ before) = IsFault step

abbrev pub EndsMended : List RadioStep → Type 0
EndsMended [] = ⊥
EndsMended (step ∷ before) = IsMended step

-- Where the slot went down mending begins at once, and an out is applied right behind going on with it, but behind no try
-- in vain.
abbrev pub ComesNext : RadioStep → List RadioStep → Type 0
ComesNext Begin before = Unit {0}
ComesNext (Apply told) before = EndsMended before
ComesNext step before = ¬ EndsAtFault before

abbrev pub AreInOrder : List RadioStep → Type 0
AreInOrder [] = Unit {0}
AreInOrder (step ∷ before) = ComesNext step before × AreInOrder before

-- ---- what each does
-- what a poll that gave no frame told
abbrev pub silence : Option RadioFault → Result (Option (List ℕ)) RadioFault
silence None = Ok None
silence (Some fault) = Err fault

module _ {R : Type 0} (radio : RadioModel R) (frames : R → Option (List (List ℕ))) where
  -- which frames are left, where they are known
  abbrev pub LeavesFrames : Result (Option (List ℕ)) RadioFault → Slot R → Slot R → Type 0
  LeavesFrames (Ok frame) old new = Polls (frames (radio_of old)) frame (frames (radio_of new))
  LeavesFrames (Err fault) old new = (frames (radio_of old) ≡ None) × (frames (radio_of new) ≡ None)

  -- the slot's radio was asked for the next frame
  pub record IsPolled (got : Result (Option (List ℕ)) RadioFault) (old new : Slot R) : Type 0 where
    pub next : LeavesFrames got old new
    pub installed : radio.stations (radio_of new) ≡ radio.stations (radio_of old)
    pub stays : OnOk got (radio.faults (radio_of new) ≡ radio.faults (radio_of old))
    pub device : got ≡ Err radio_fault.Device → HasRisen (radio.faults (radio_of old)) (radio.faults (radio_of new))
    pub short : got ≡ Err radio_fault.NoMemory → radio.faults (radio_of new) ≡ radio.faults (radio_of old)
    pub sent : radio.sent (radio_of new) ≡ radio.sent (radio_of old)
    pub same : SameButRadio old new

  -- the first of the outs that wait was applied, which takes no frame
  pub record IsApplied (told : Option (Result (Out × Result (Unit {0}) SlotFault) AllocError)) (old new : Slot R) : Type 0 where
    pub applies : AppliesNext radio told old new
    pub receives : frames (radio_of new) ≡ frames (radio_of old)

  module _ {A : Type 0} (made : Made A) where
    abbrev pub Does : RadioStep → A → A → Slot R → Slot R → Mending R → Mending R → Type 0
    Does (Receive frame moment answer) core after old new mending left =
        IsPolled (Ok (Some frame)) old new
        × ((request : Input) × IsReception (bssid_of old) frame request × made (SubmitTells request moment answer) core after)
        × (left ≡ mending)
    Does (Silence fault) core after old new mending left =
        IsPolled (silence fault) old new × (after ≡ core) × (left ≡ mending)
    Does (Hand told) core after old new mending left =
        made (λ c d. HandsTo (bssid_of old) told c d old new) core after × (left ≡ mending)
    Does (Apply told) core after old new mending left = IsApplied told old new × (after ≡ core) × (left ≡ mending)
    Does Begin core after old new mending left = Begins radio frames mending left old new × (after ≡ core)
    Does (GoOn tried up) core after old new mending left =
        GoesOn radio frames tried mending left old new × (up ≡ is_up_of new) × (after ≡ core)

    -- steps, the last of which stands first
    abbrev pub AreRadioSteps : List RadioStep → A → A → Slot R → Slot R → Mending R → Mending R → Type 0
    AreRadioSteps [] core after old new mending left = (after ≡ core) × (new ≡ old) × (left ≡ mending)
    AreRadioSteps (step ∷ steps) core after old new mending left =
        (mid : A) × (between : Slot R) × (then : Mending R) × AreRadioSteps steps core mid old between mending then
        × Does step mid after between new then left

    -- some steps lead there, in order, and nothing else happened; no fault is left behind which mending didn't begin
    pub record IsRadioRun (core after : A) (old new : Slot R) (mending left : Mending R) : Type 0 where
      pub steps : List RadioStep
      pub are : AreRadioSteps steps core after old new mending left
      pub order : AreInOrder steps
      pub mended : ¬ EndsAtFault steps

  -- the same of steps that make no call of a core
  abbrev pub IsTended : Slot R → Slot R → Mending R → Mending R → Type 0
  IsTended old new mending left = IsRadioRun no_core tt tt old new mending left
