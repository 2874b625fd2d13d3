-- What an out does to a slot, by its answer (own).
use Rattle.std.specs.Prelude.{◌≡◌, ◌≢◌, ◌≤◌, ◌⊎◌, ◌↔◌, true, false, List, [], ◌∷◌, Option, None, Some, Result, Ok, Err, OnOk}
use Rattle.std.specs.declared.alloc.AllocError.{AllocError}
use Rattle.apd_base.specs.Failures.{HasRisen}
use Rattle.apd_mlme.specs.declared.decision.Out.{Out}
use Rattle.apd_radio.specs.Model.{RadioModel}
use Rattle.apd_slot.specs.Slots.{bssid_of, is_up_of, queue_of, radio_of, wanted_of, IsExact}
use Rattle.apd_slot.specs.Wanted.{wanted_by, installed_by, sent_by, up_by, IsFrame, IsText, IsRemoval}
use Rattle.apd_slot.specs.declared.slot.Slot.{Slot}
use Rattle.apd_slot.specs.declared.slot.SlotFault.{SlotFault}
use Rattle.apd_slot.specs.declared.slot.SlotFault.TheVariants.{WentDown, Lost, NotMine, NoMemory}

-- the slot was given the out, and answered so; of what waits nothing is said
pub record IsGivenOut {R : Type 0} (radio : RadioModel R) (out : Out)
    (answer : Result (Unit {0}) SlotFault) (old new : Slot R) : Type 0 where
  pub bssid : bssid_of new ≡ bssid_of old
  pub exact : IsExact radio old → IsExact radio new
  pub wanted : wanted_of new ≡ wanted_by out answer (wanted_of old)
  pub installed : radio.stations (radio_of new) ≡ installed_by out answer (is_up_of old) (radio.stations (radio_of old))
  pub up : is_up_of new ≡ up_by answer (is_up_of old)
  pub down : answer ≡ Err WentDown
      → (is_up_of old ≡ true) × HasRisen (radio.faults (radio_of old)) (radio.faults (radio_of new))
  pub lost : answer ≡ Err Lost
      → IsFrame out × ((is_up_of old ≡ false) ⊎ HasRisen (radio.faults (radio_of old)) (radio.faults (radio_of new)))
  pub silent : IsFrame out → is_up_of old ≡ false → answer ≡ Err Lost
  pub frame : IsFrame out → answer ≢ Err WentDown
  pub not_mine : (answer ≡ Err NotMine) ↔ IsText out
  pub text : IsText out → radio_of new ≡ radio_of old
  pub memory : IsRemoval out → answer ≢ Err NoMemory
  pub asleep : is_up_of old ≡ false → radio_of new ≡ radio_of old
  pub stays : OnOk answer (radio.faults (radio_of new) ≡ radio.faults (radio_of old))
  pub short : answer ≡ Err NoMemory → radio.faults (radio_of new) ≡ radio.faults (radio_of old)
  pub count : radio.faults (radio_of old) ≤ radio.faults (radio_of new)
  pub sent : radio.sent (radio_of new) ≡ sent_by out answer (radio.sent (radio_of old))

-- memory ran out at the first of the outs that wait: it stays first
pub record IsShort {R : Type 0} (radio : RadioModel R) (old new : Slot R) : Type 0 where
  pub out : Out
  pub rest : List Out
  pub first : queue_of old ≡ out ∷ rest
  pub given : IsGivenOut radio out (Err NoMemory) old new
  pub queue : queue_of new ≡ queue_of old

-- the first of the outs that wait was applied and is gone; memory ran out at it; or none waits
abbrev pub AppliesNext : {R : Type 0} → RadioModel R → Option (Result (Out × Result (Unit {0}) SlotFault) AllocError)
    → Slot R → Slot R → Type 0
AppliesNext radio (Some (Ok applied)) old new = (queue_of old ≡ applied.0 ∷ queue_of new)
    × (applied.1 ≢ Err NoMemory) × IsGivenOut radio applied.0 applied.1 old new
AppliesNext radio (Some (Err short)) old new = IsShort radio old new
AppliesNext radio None old new = (queue_of old ≡ []) × (new ≡ old)
