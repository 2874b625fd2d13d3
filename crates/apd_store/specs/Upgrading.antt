-- What the copying of a store of version 1 leaves of the device that is read, the old one, and of the one that is made,
-- the new one.
use Rattle.std.specs.Prelude.{◌≡◌, ◌≢◌, ◌≤◌, ◌+◌, ◌⊎◌, ℕ, List, Some}
use Rattle.apd_base.specs.declared.address.Bssid.{Bssid}
use Rattle.apd_base.specs.declared.limits.TheConstants.{DEVICE_LENGTH}
use Rattle.apd_base.specs.declared.station.StationNumber.{StationNumber}
use Rattle.apd_base.specs.Failures.{HasRisen}
use Rattle.apd_base.specs.State.{State, cursor_at}
use Rattle.apd_disk.specs.Disk.{Only, LeavesOnly, DiskModel}
use Rattle.apd_store.specs.Commit.{IsIdle}
use Rattle.apd_store.specs.Image.{IsMarked, IsMarkedOld, MayBeMade, Shows, ShowsNoneOld, ShowsOld}
use Rattle.apd_store.specs.Outside.{store_device, phase_of, IsInside}
use Rattle.apd_store.specs.Recovery.{HasFailedToSync}
use Rattle.apd_store.specs.declared.fault.StoreFault.{StoreFault}
use Rattle.apd_store.specs.declared.fault.StoreFault.TheVariants.{NotAStore, Damaged, Device, NewVersion, NoMemory}
use Rattle.apd_store.specs.declared.phase.Phase.TheVariants.{Idle}
use Rattle.apd_store.specs.declared.store.Store.{Store}

-- each cursor is 0: no identifier was given yet
abbrev pub HasNoneGiven : State → Type 0
HasNoneGiven state = (b : Bssid) (last : StationNumber) → cursor_at state b ≡ Some last → last.number ≡ 0

-- an honest device is not written: a stop leaves no image that it could not leave before
pub record IsOnlyRead {D : Type 0} (disk : DiskModel D) (old left : D) : Type 0 where
  pub any_moment : LeavesOnly disk old left (disk.may_leave old)
  -- where a stop left one image before, it leaves that one, and a read gives it
  pub still : (image : List ℕ) → Only image (disk.may_leave old) → Only image (disk.may_leave left) × (disk.reads left ≡ image)
  pub calls : disk.moment left ≤ disk.moment old + 2

-- The new device is on its way to a store of the state that the old one, where it is honest, shows by its version.
pub record IsBeingMade {O N : Type 0} (from : DiskModel O) (to : DiskModel N) (old left : O) (new new_left : N)
    : Type 0 where
  pub state : State
  pub shown : from.honest left → ShowsOld (from.reads old) state
  pub any_moment : to.honest new_left → LeavesOnly to new new_left (MayBeMade state (to.may_leave new))
  pub calls : to.honest new_left → to.moment new_left ≤ to.moment new + 9

-- the new device became this store; an honest one's is of that state, which alone a stop leaves from now on
pub record IsUpgraded {O N : Type 0} (from : DiskModel O) (to : DiskModel N) (old left : O) (new : N)
    (store : Store N) : Type 0 where
  pub old_length : from.size old ≡ DEVICE_LENGTH
  pub length : to.size new ≡ DEVICE_LENGTH
  pub inside : IsInside to store
  pub ready : phase_of store ≡ Idle
  pub old_count : from.failed left ≡ from.failed old
  pub count : to.failed (store_device store) ≡ to.failed new
  pub old_was_honest : from.honest left → from.honest old
  pub was_honest : to.honest (store_device store) → to.honest new
  pub made : IsBeingMade from to old left new (store_device store)
  pub none_given : HasNoneGiven made.state
  pub idle : to.honest (store_device store) → IsIdle to store made.state
  pub shown : to.honest (store_device store)
      → (c : List ℕ) → to.may_leave (store_device store) c → Shows c made.state
  pub old_stays : from.honest left → from.reads left ≡ from.reads old
  -- the old one was synced before it was read
  pub old_durable : from.honest left → Only (from.reads old) (from.may_leave left)

-- both devices are handed back, with this fault; the bytes of an old one that is honest show why
pub record IsNotUpgraded {O N : Type 0} (from : DiskModel O) (to : DiskModel N) (old left : O) (new new_left : N)
    (fault : StoreFault) : Type 0 where
  pub few : (fault ≡ NotAStore) ⊎ (fault ≡ NewVersion) ⊎ (fault ≡ Damaged) ⊎ (fault ≡ Device) ⊎ (fault ≡ NoMemory)
  pub other_length : from.size old ≢ DEVICE_LENGTH → (fault ≡ NotAStore) ⊎ (fault ≡ Device)
  pub device_failed : fault ≡ Device → HasRisen (from.failed old) (from.failed left) ⊎ HasRisen (to.failed new) (to.failed new_left)
  pub no_fault : fault ≢ Device → from.failed left ≡ from.failed old
  pub untouched : fault ≢ Device → new_left ≡ new
  pub new_length : to.size new ≢ DEVICE_LENGTH → new_left ≡ new
  pub old_count : from.failed old ≤ from.failed left
  pub count : to.failed new ≤ to.failed new_left
  pub old_was_honest : from.honest left → from.honest old
  pub was_honest : to.honest new_left → to.honest new
  -- the new one's length is looked at last
  pub not_a_store : from.honest left → fault ≡ NotAStore
      → ((¬ IsMarked (from.reads old)) × (¬ IsMarkedOld (from.reads old)))
      ⊎ ((to.size new ≢ DEVICE_LENGTH) × ((state : State) × ShowsOld (from.reads old) state))
  pub new_version : from.honest left → fault ≡ NewVersion → IsMarked (from.reads old)
  pub damaged : from.honest left → fault ≡ Damaged → IsMarkedOld (from.reads old) × ShowsNoneOld (from.reads old)
  pub stays : from.honest left → fault ≢ Device → from.reads left ≡ from.reads old
  -- the old one was synced before it was read, also where that read failed
  pub old_durable : from.honest left
      → Only (from.reads old) (from.may_leave left) ⊎ ((fault ≡ Device) × HasFailedToSync from old left)
  pub made : (new_left ≡ new) ⊎ IsBeingMade from to old left new new_left
