-- What is seen of a world: its durable core, its slots, and for each BSSID the outs that wait at its slot (own).
use Rattle.std.specs.Prelude.{ℕ, Bool, false, List, [], Option, None, Some, slice_get}
use Rattle.std.specs.List.{position}
use Rattle.std.specs.Ordering.{eq_by_cmp}
use Rattle.apd_world.specs.Words.{Bssid, DurableCore, Out, Slot, World, bssid_cmp, bssid_of, is_up_of}
use Rattle.apd_slot.specs.Slots.{queue_of as slot_queue}

abbrev pub durable_of : {D R : Type 0} → World D R → DurableCore D
durable_of w = w.durable

abbrev pub slots_of : {D R : Type 0} → World D R → List (Slot R)
slots_of w = w.slots.items

abbrev pub is_for : {R : Type 0} → Bssid → Slot R → Bool
is_for b slot = eq_by_cmp bssid_cmp b (bssid_of slot)

-- the place of a BSSID's slot: of the first, if it has several
abbrev pub slot_place : {R : Type 0} → List (Slot R) → Bssid → Option ℕ
slot_place slots b = position (is_for b) slots

abbrev pub slot_in : {R : Type 0} → List (Slot R) → Option ℕ → Option (Slot R)
slot_in slots None = None
slot_in slots (Some place) = slice_get slots place

-- a BSSID's slot
abbrev pub slot_at : {R : Type 0} → List (Slot R) → Bssid → Option (Slot R)
slot_at slots b = slot_in slots (slot_place slots b)

-- a slot that is not there is not up
abbrev pub is_up_if : {R : Type 0} → Option (Slot R) → Bool
is_up_if None = false
is_up_if (Some slot) = is_up_of slot

-- at a slot that is not there no out waits
abbrev pub queue_if : {R : Type 0} → Option (Slot R) → List Out
queue_if None = []
queue_if (Some slot) = slot_queue slot

-- the outs that wait at a BSSID's slot, in order
abbrev pub queue_of : {D R : Type 0} → World D R → Bssid → List Out
queue_of w b = queue_if (slot_at (slots_of w) b)
