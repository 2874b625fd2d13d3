-- What the making of a store leaves of a device.
use Rattle.std.specs.Prelude.{◌≡◌, ◌≢◌, ◌≤◌, ◌+◌, ◌↔◌, ◌⊎◌, ℕ, List}
use Rattle.apd_base.specs.declared.limits.TheConstants.{DEVICE_LENGTH}
use Rattle.apd_base.specs.Failures.{HasRisen}
use Rattle.apd_base.specs.State.{empty_state}
use Rattle.apd_disk.specs.Disk.{LeavesOnly, DiskModel}
use Rattle.apd_store.specs.Commit.{IsIdle}
use Rattle.apd_store.specs.Image.{MayBeMade, Shows}
use Rattle.apd_store.specs.Outside.{store_device, phase_of, IsInside}
use Rattle.apd_store.specs.declared.fault.StoreFault.{StoreFault}
use Rattle.apd_store.specs.declared.fault.StoreFault.TheVariants.{NotAStore, Device}
use Rattle.apd_store.specs.declared.phase.Phase.TheVariants.{Idle}
use Rattle.apd_store.specs.declared.store.Store.{Store}

-- the device became this store: an honest one's is of the empty table, which alone a stop leaves from now on
pub record IsFormatted {D : Type 0} (disk : DiskModel D) (device : D)
    (store : Store D) : Type 0 where
  pub length : disk.size device ≡ DEVICE_LENGTH
  pub inside : IsInside disk store
  pub ready : phase_of store ≡ Idle
  pub count : disk.failed (store_device store) ≡ disk.failed device
  pub was_honest : disk.honest (store_device store) → disk.honest device
  pub empty : disk.honest (store_device store) → IsIdle disk store empty_state
  pub shown : disk.honest (store_device store)
      → (c : List ℕ) → disk.may_leave (store_device store) c → Shows c empty_state
  pub any_moment : disk.honest (store_device store)
      → LeavesOnly disk device (store_device store) (MayBeMade empty_state (disk.may_leave device))
  pub calls : disk.honest (store_device store) → disk.moment (store_device store) ≤ disk.moment device + 9

-- the device is handed back, with this fault
pub record IsNotFormatted {D : Type 0} (disk : DiskModel D) (device left : D)
    (fault : StoreFault) : Type 0 where
  pub few : (fault ≡ NotAStore) ⊎ (fault ≡ Device)
  pub not_a_store : (fault ≡ NotAStore) ↔ (disk.size device ≢ DEVICE_LENGTH)
  pub untouched : fault ≡ NotAStore → left ≡ device
  pub device_failed : fault ≡ Device → HasRisen (disk.failed device) (disk.failed left)
  pub count : disk.failed device ≤ disk.failed left
  pub was_honest : disk.honest left → disk.honest device
  pub any_moment : disk.honest left → LeavesOnly disk device left (MayBeMade empty_state (disk.may_leave device))
  pub calls : disk.honest left → disk.moment left ≤ disk.moment device + 9
