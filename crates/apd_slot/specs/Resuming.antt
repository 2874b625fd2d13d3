-- What becomes of a slot that resumes, whose radio is given anew what is wanted, or replaced, by its answer (own).
use Rattle.std.specs.Prelude.{◌≡◌, ◌⊎◌, [], Result, Err, OnOk, OnErr, IfOk, IfErr, is_ok, if◌then◌else◌}
use Rattle.std.specs.FinMap as map
use Rattle.apd_base.specs.Failures.{HasRisen}
use Rattle.apd_radio.specs.Model.{RadioModel}
use Rattle.apd_slot.specs.Slots.{bssid_of, is_up_of, queue_of, radio_of, wanted_of, IsExact}
use Rattle.apd_slot.specs.Wanted.{Stations}
use Rattle.apd_slot.specs.declared.slot.Slot.{Slot}
use Rattle.apd_slot.specs.declared.slot.SlotFault.{SlotFault}
use Rattle.apd_slot.specs.declared.slot.SlotFault.TheVariants.{WentDown, NoMemory}

-- the slot was given these stations in place of those that were wanted, and answered so
pub record IsGivenRows {R : Type 0} (radio : RadioModel R) (rows : Stations)
    (answer : Result (Unit {0}) SlotFault) (old new : Slot R) : Type 0 where
  pub bssid : bssid_of new ≡ bssid_of old
  pub up : is_up_of new ≡ is_ok answer
  pub exact : IsExact radio new
  pub wanted : wanted_of new ≡ (if is_ok answer then rows else wanted_of old)
  pub installed : OnOk answer (radio.stations (radio_of new) ≡ rows)
  pub queue : queue_of new ≡ (if is_ok answer then [] else queue_of old)
  pub errors : IfErr answer (λ fault. (fault ≡ WentDown) ⊎ (fault ≡ NoMemory))
  pub down : answer ≡ Err WentDown → HasRisen (radio.faults (radio_of old)) (radio.faults (radio_of new))
  pub stays : OnOk answer (radio.faults (radio_of new) ≡ radio.faults (radio_of old))
  pub short : answer ≡ Err NoMemory → radio.faults (radio_of new) ≡ radio.faults (radio_of old)
  pub sent : radio.sent (radio_of new) ≡ radio.sent (radio_of old)

-- the slot's own radio was given anew the stations that are wanted, and the slot answered so
pub record IsGivenAnew {R : Type 0} (radio : RadioModel R)
    (answer : Result (Unit {0}) SlotFault) (old new : Slot R) : Type 0 where
  pub bssid : bssid_of new ≡ bssid_of old
  pub wanted : wanted_of new ≡ wanted_of old
  pub queue : queue_of new ≡ queue_of old
  pub up : is_up_of new ≡ is_ok answer
  pub exact : IsExact radio new
  pub installed : OnOk answer (radio.stations (radio_of new) ≡ wanted_of old)
  pub errors : IfErr answer (λ fault. (fault ≡ WentDown) ⊎ (fault ≡ NoMemory))
  pub down : answer ≡ Err WentDown → HasRisen (radio.faults (radio_of old)) (radio.faults (radio_of new))
  pub stays : OnOk answer (radio.faults (radio_of new) ≡ radio.faults (radio_of old))
  pub short : answer ≡ Err NoMemory → radio.faults (radio_of new) ≡ radio.faults (radio_of old)
  pub sent : radio.sent (radio_of new) ≡ radio.sent (radio_of old)

-- a radio comes back without stations, since it could not be given those that are wanted
pub record IsRefused {R : Type 0} (radio : RadioModel R) (before : R) (fault : SlotFault) (after : R) : Type 0 where
  pub emptied : radio.stations after ≡ map.empty
  pub errors : (fault ≡ WentDown) ⊎ (fault ≡ NoMemory)
  pub down : fault ≡ WentDown → HasRisen (radio.faults before) (radio.faults after)
  pub short : fault ≡ NoMemory → radio.faults after ≡ radio.faults before
  pub sent : radio.sent after ≡ radio.sent before

-- the slot was given another radio in place of its own, and answered so
pub record IsGivenRadio {R : Type 0} (radio : RadioModel R) (other : R)
    (answer : Result R (R × SlotFault)) (old new : Slot R) : Type 0 where
  pub bssid : bssid_of new ≡ bssid_of old
  pub wanted : wanted_of new ≡ wanted_of old
  pub queue : queue_of new ≡ queue_of old
  pub up : is_up_of new ≡ is_ok answer
  pub exact : IsExact radio new
  pub installed : OnOk answer (radio.stations (radio_of new) ≡ wanted_of old)
  pub faults : OnOk answer (radio.faults (radio_of new) ≡ radio.faults other)
  pub own : IfOk answer (λ own. (radio.stations own ≡ map.empty) × (radio.faults own ≡ radio.faults (radio_of old)))
  pub sent : OnOk answer (radio.sent (radio_of new) ≡ radio.sent other)
  pub own_sent : IfOk answer (λ own. radio.sent own ≡ radio.sent (radio_of old))
  pub kept : OnErr answer (radio_of new ≡ radio_of old)
  pub back : IfErr answer (λ failed. IsRefused radio other failed.1 failed.0)
