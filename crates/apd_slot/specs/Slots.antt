-- A slot: its radio has what is wanted, where it is up, and outs wait to be applied (own).
use Rattle.std.specs.Prelude.{◌≡◌, ◌<◌, ◌≤◌, ◌+◌, ℕ, Bool, true, List, [], length}
use Rattle.std.specs.VecDeque.{deque_capacity}
use Rattle.apd_base.specs.declared.address.Bssid.{Bssid}
use Rattle.apd_mlme.specs.declared.decision.Out.{Out}
use Rattle.apd_radio.specs.Model.{RadioModel}
use Rattle.apd_slot.specs.declared.slot.Slot.{Slot}
use Rattle.apd_slot.specs.Wanted.{Stations, wanted_after_all}

abbrev pub bssid_of : {R : Type 0} → Slot R → Bssid
bssid_of slot = slot.bssid

abbrev pub is_up_of : {R : Type 0} → Slot R → Bool
is_up_of slot = slot.up

abbrev pub radio_of : {R : Type 0} → Slot R → R
radio_of slot = slot.radio

-- the stations that its radio should have
abbrev pub wanted_of : {R : Type 0} → Slot R → Stations
wanted_of slot = slot.wanted

-- the outs that wait, in order
abbrev pub queue_of : {R : Type 0} → Slot R → List Out
queue_of slot = slot.queue.items

-- how many outs can wait without more memory
abbrev pub room_of : {R : Type 0} → Slot R → ℕ
room_of slot = deque_capacity slot.queue

-- the stations that its radio has are those, where the slot is up
abbrev pub IsExact : {R : Type 0} → RadioModel R → Slot R → Type 0
IsExact radio slot = is_up_of slot ≡ true → radio.stations (radio_of slot) ≡ wanted_of slot

-- the stations that are wanted once all that waits is applied
abbrev pub wanted_then : {R : Type 0} → Slot R → Stations
wanted_then slot = wanted_after_all (queue_of slot) (wanted_of slot)

-- so many outs more find room, where any waits; the first ones bring their own
abbrev pub HasRoomFor : {R : Type 0} → ℕ → Slot R → Type 0
HasRoomFor count slot = 0 < length (queue_of slot) → length (queue_of slot) + count ≤ room_of slot

-- all is as it was, but for the room of the queue
pub record SameButRoom {R : Type 0} (old new : Slot R) : Type 0 where
  pub bssid : bssid_of new ≡ bssid_of old
  pub radio : radio_of new ≡ radio_of old
  pub wanted : wanted_of new ≡ wanted_of old
  pub up : is_up_of new ≡ is_up_of old
  pub queue : queue_of new ≡ queue_of old

-- all but the queue is as it was
pub record SameButQueue {R : Type 0} (old new : Slot R) : Type 0 where
  pub bssid : bssid_of new ≡ bssid_of old
  pub radio : radio_of new ≡ radio_of old
  pub wanted : wanted_of new ≡ wanted_of old
  pub up : is_up_of new ≡ is_up_of old

-- no out waits, and all else is as it was
pub record HasForgotten {R : Type 0} (old new : Slot R) : Type 0 where
  pub queue : queue_of new ≡ []
  pub same : SameButQueue old new

-- all but the radio is as it was
pub record SameButRadio {R : Type 0} (old new : Slot R) : Type 0 where
  pub bssid : bssid_of new ≡ bssid_of old
  pub wanted : wanted_of new ≡ wanted_of old
  pub up : is_up_of new ≡ is_up_of old
  pub queue : queue_of new ≡ queue_of old
