-- Slots that resume by a table (own).
use Rattle.std.specs.Prelude.{◌≡◌, ◌+◌, ℕ, List, [], drop, map, take, Option, Some, Err, slice_get}
use Rattle.std.specs.List.{AllByRecursion}
use Rattle.apd_world.specs.Words.{Bssid, DiskModel, IsGivenRows, RadioModel, Shows, Slot, SlotFault, State, Store, World, WorldFault, bssid_of, installed_rows, radio_of, wanted_of}
use Rattle.apd_slot.specs.Resumed.{Resumed}
use Rattle.apd_store.specs.Outside.{store_device}
use Rattle.apd_world.specs.Following.{AreExact, AreFollowing}
use Rattle.apd_world.specs.WorldParts.{durable_of, queue_of, slots_of}
use Rattle.apd_world.specs.declared.fault.WorldFault.TheVariants as world_fault

-- the slot has resumed, and the stations that its radio has are wanted
pub record IsResumed {R : Type 0} (radio : RadioModel R) (s : State) (slot : Slot R) : Type 0 where
  pub resumed : Resumed radio s slot
  pub wanted : wanted_of slot ≡ installed_rows s (bssid_of slot)
  pub installed : radio.stations (radio_of slot) ≡ installed_rows s (bssid_of slot)

abbrev pub AreResumed : {R : Type 0} → RadioModel R → State → List (Slot R) → Type 0
AreResumed radio s slots = AllByRecursion (IsResumed radio s) slots

-- the same BSSIDs, in the same order
abbrev pub HaveSameBssids : {R : Type 0} → List (Slot R) → List (Slot R) → Type 0
HaveSameBssids old new = map bssid_of new ≡ map bssid_of old

-- with radios that receive the same frames, in the same order
abbrev pub HaveSameFrames : {R : Type 0} → (R → Option (List (List ℕ))) → List (Slot R) → List (Slot R) → Type 0
HaveSameFrames frames old new = map (λ slot. frames (radio_of slot)) new ≡ map (λ slot. frames (radio_of slot)) old

-- a world's slots have resumed by its table, from these; they follow it, and no out waits
pub record HasResumed {D R : Type 0} (radio : RadioModel R) (slots : List (Slot R)) (w : World D R) : Type 0 where
  pub resumed : AreResumed radio (durable_of w).core.settled (slots_of w)
  pub exact : AreExact radio (slots_of w)
  pub following : AreFollowing w
  pub queues : (b : Bssid) → queue_of w b ≡ []
  pub same : HaveSameBssids slots (slots_of w)

-- The slot of a BSSID has not resumed by the table, for this reason, and is down; those before it have, and those behind
-- it are as they were.
pub record HasNotResumed {R : Type 0} (radio : RadioModel R) (s : State) (b : Bssid) (fault : SlotFault)
    (old new : List (Slot R)) : Type 0 where
  pub place : ℕ
  pub before : Slot R
  pub after : Slot R
  pub was : slice_get old place ≡ Some before
  pub is : slice_get new place ≡ Some after
  pub bssid : bssid_of before ≡ b
  pub given : IsGivenRows radio (installed_rows s b) (Err fault) before after
  pub resumed : AreResumed radio s (take place new)
  pub rest : drop (place + 1) new ≡ drop (place + 1) old

-- a device, which is left so, was the store of a table by which the slot of a BSSID has not resumed
pub record EndsAtSlot {D R : Type 0} (disk : DiskModel D) (radio : RadioModel R) (device device_left : D)
    (b : Bssid) (fault : SlotFault) (old new : List (Slot R)) : Type 0 where
  pub table : State
  pub shown : disk.honest device_left → Shows (disk.reads device) table
  pub not_resumed : HasNotResumed radio table b fault old new

-- what a fault leaves of the slots: memory ran out before any, or one has not resumed
abbrev pub AreLeft : {R : Type 0} → RadioModel R → State → WorldFault → List (Slot R) → List (Slot R) → Type 0
AreLeft radio s (world_fault.Slot b fault) old new = HasNotResumed radio s b fault old new
AreLeft radio s world_fault.NoMemory old new = new ≡ old
AreLeft radio s (world_fault.Store fault) old new = ⊥
AreLeft radio s world_fault.NoSlot old new = ⊥

-- no world was begun over this store and its table: the device and the slots are handed back, with this fault
pub record AreHandedBack {D R : Type 0} (radio : RadioModel R) (store : Store D) (s : State) (slots : List (Slot R))
    (device : D) (left : List (Slot R)) (fault : WorldFault) : Type 0 where
  pub device_is : device ≡ store_device store
  pub slots_are : AreLeft radio s fault slots left
  pub same : HaveSameBssids slots left
