-- What a recovery finds on a device, and what it leaves of it.
use Rattle.std.specs.Prelude.{◌≡◌, ◌≢◌, ◌≤◌, ◌+◌, ◌⊎◌, ℕ, List, Result, Err}
use Rattle.apd_base.specs.declared.limits.TheConstants.{DEVICE_LENGTH}
use Rattle.apd_base.specs.Failures.{HasRisen}
use Rattle.apd_base.specs.State.{State}
use Rattle.apd_disk.specs.Disk.{Only, IsSynced, LeavesOnly, DiskModel}
use Rattle.apd_disk.specs.declared.fault.DiskFault.{DiskFault}
use Rattle.apd_store.specs.Commit.{IsIdle}
use Rattle.apd_store.specs.Image.{IsMarked, IsMarkedOld, Shows, ShowsNone}
use Rattle.apd_store.specs.Outside.{store_device, phase_of, IsInside}
use Rattle.apd_store.specs.declared.fault.StoreFault.{StoreFault}
use Rattle.apd_store.specs.declared.fault.StoreFault.TheVariants.{NotAStore, OldVersion, Damaged, Device, NoMemory}
use Rattle.apd_store.specs.declared.phase.Phase.TheVariants.{Idle}
use Rattle.apd_store.specs.declared.store.Store.{Store}

-- the device became this store; the bytes of an honest one show this state, which they did before
pub record IsRecovered {D : Type 0} (disk : DiskModel D) (device : D) (store : Store D) (state : State) : Type 0 where
  pub length : disk.size device ≡ DEVICE_LENGTH
  pub inside : IsInside disk store
  pub ready : phase_of store ≡ Idle
  pub count : disk.failed (store_device store) ≡ disk.failed device
  pub was_honest : disk.honest (store_device store) → disk.honest device
  pub shown : disk.honest (store_device store) → Shows (disk.reads device) state
  pub idle : disk.honest (store_device store) → IsIdle disk store state
  pub stays : disk.honest (store_device store) → disk.reads (store_device store) ≡ disk.reads device
  pub any_moment : disk.honest (store_device store)
      → LeavesOnly disk device (store_device store) (disk.may_leave device)
  pub calls : disk.honest (store_device store) → disk.moment (store_device store) ≤ disk.moment device + 2

-- the device was asked for one sync, which failed, and for nothing else
pub record HasFailedToSync {D : Type 0} (disk : DiskModel D) (device left : D) : Type 0 where
  pub fault : DiskFault
  pub answer : Result (Unit {0}) DiskFault
  pub failed : answer ≡ Err fault
  pub asked : IsSynced disk device left answer

-- the device is handed back, with this fault; the bytes of an honest one show why
pub record IsNotRecovered {D : Type 0} (disk : DiskModel D) (device left : D)
    (fault : StoreFault) : Type 0 where
  pub few : (fault ≡ NotAStore) ⊎ (fault ≡ OldVersion) ⊎ (fault ≡ Damaged) ⊎ (fault ≡ Device) ⊎ (fault ≡ NoMemory)
  pub other_length : disk.size device ≢ DEVICE_LENGTH → (fault ≡ NotAStore) ⊎ (fault ≡ Device)
  pub device_failed : fault ≡ Device → HasRisen (disk.failed device) (disk.failed left)
  pub no_fault : fault ≢ Device → disk.failed left ≡ disk.failed device
  pub count : disk.failed device ≤ disk.failed left
  pub was_honest : disk.honest left → disk.honest device
  pub not_a_store : disk.honest left → fault ≡ NotAStore
      → (¬ IsMarked (disk.reads device)) × (¬ IsMarkedOld (disk.reads device))
  pub old_version : disk.honest left → fault ≡ OldVersion → IsMarkedOld (disk.reads device)
  pub damaged : disk.honest left → fault ≡ Damaged → IsMarked (disk.reads device) × ShowsNone (disk.reads device)
  -- a stop leaves what was shown, also where the read failed: it came behind a sync that succeeded
  pub durable : disk.honest left
      → Only (disk.reads device) (disk.may_leave left) ⊎ ((fault ≡ Device) × HasFailedToSync disk device left)
  pub stays : disk.honest left → fault ≢ Device → disk.reads left ≡ disk.reads device
  -- where a stop left one image before, as after a sync, it leaves that one
  pub still : disk.honest left → (image : List ℕ) → Only image (disk.may_leave device)
      → Only image (disk.may_leave left) × (disk.reads left ≡ image)
  pub any_moment : disk.honest left → LeavesOnly disk device left (disk.may_leave device)
  pub calls : disk.honest left → disk.moment left ≤ disk.moment device + 2
