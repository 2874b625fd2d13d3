-- A durable core begun anew from what a device holds.
use Rattle.std.specs.Prelude.{◌≡◌, ◌≢◌, ◌⊎◌, ℕ, List}
use Rattle.apd_base.specs.declared.limits.TheConstants.{DEVICE_LENGTH}
use Rattle.apd_world.specs.Words.{AreHeardAt, Conf, DiskModel, DurableCore, HasRisen, LeavesOnly, Moment, Only, Shows, Sound, State, Store, WorldFault, new_core}
use Rattle.apd_store.specs.Commit.{IsIdle}
use Rattle.apd_store.specs.Image.{IsMarked, IsMarkedOld, ShowsNone}
use Rattle.apd_store.specs.Outside.{IsInside, store_device, phase_of}
use Rattle.apd_store.specs.Recovery.{HasFailedToSync}
use Rattle.apd_store.specs.declared.fault.StoreFault.TheVariants as store_fault
use Rattle.apd_store.specs.declared.phase.Phase.TheVariants.{Idle}
use Rattle.apd_flusher.specs.Outside.{store_of}
use Rattle.apd_world.specs.Outside.{device_of, flusher_of}
use Rattle.apd_world.specs.Proper.{IsProper, IsWhole}
use Rattle.apd_world.specs.History.{History, Keeps, after}
use Rattle.apd_world.specs.declared.fault.WorldFault.TheVariants as world_fault

-- of a store and its table: nothing is unsettled, and every station was heard at this moment
pub record IsBegunWith {D : Type 0} (disk : DiskModel D) (store : Store D) (table : State)
    (confs : List Conf) (m : Moment) (new : DurableCore D) : Type 0 where
  pub over : store_of (flusher_of new) ≡ store
  pub core : new.core ≡ new_core table confs new.core.heard
  pub heard : AreHeardAt m table new.core.heard
  pub sound : Sound table
  pub whole : IsInside disk store → phase_of store ≡ Idle → IsWhole disk new
  pub proper : disk.honest (store_device store) → IsInside disk store → IsIdle disk store table → IsProper disk new

-- of the store that a device holds: of an honest one its table is the state that the bytes show, which after a stop is the
-- one that a history kept
pub record IsBegunAnew {D : Type 0} (disk : DiskModel D) (device : D) (confs : List Conf) (m : Moment)
    (new : DurableCore D) : Type 0 where
  pub length : disk.size device ≡ DEVICE_LENGTH
  pub core : new.core ≡ new_core new.core.settled confs new.core.heard
  pub heard : AreHeardAt m new.core.settled new.core.heard
  pub sound : Sound new.core.settled
  pub whole : IsWhole disk new
  pub count : disk.failed (device_of new) ≡ disk.failed device
  pub was_honest : disk.honest (device_of new) → disk.honest device
  pub shown : disk.honest (device_of new) → Shows (disk.reads device) new.core.settled
  pub recovered : disk.honest (device_of new) → (old last : History) (kept : Keeps old last (disk.reads device))
      → new.core.settled ≡ after last kept.front
  pub proper : disk.honest (device_of new) → IsProper disk new
  pub images : disk.honest (device_of new) → Only (disk.reads device) (disk.may_leave (device_of new))
  pub any_moment : disk.honest (device_of new) → LeavesOnly disk device (device_of new) (disk.may_leave device)

-- the device is handed back, with this fault; the bytes of an honest one show why
pub record IsNotBegunAnew {D : Type 0} (disk : DiskModel D) (device left : D) (fault : WorldFault) : Type 0 where
  pub device_failed : fault ≡ world_fault.Store store_fault.Device → HasRisen (disk.failed device) (disk.failed left)
  pub no_fault : fault ≢ world_fault.Store store_fault.Device → disk.failed left ≡ disk.failed device
  pub was_honest : disk.honest left → disk.honest device
  pub not_a_store : disk.honest left → fault ≡ world_fault.Store store_fault.NotAStore
      → (¬ IsMarked (disk.reads device)) × (¬ IsMarkedOld (disk.reads device))
  pub old_version : disk.honest left → fault ≡ world_fault.Store store_fault.OldVersion → IsMarkedOld (disk.reads device)
  pub damaged : disk.honest left → fault ≡ world_fault.Store store_fault.Damaged
      → IsMarked (disk.reads device) × ShowsNone (disk.reads device)
  -- a stop leaves what was shown, also where the read failed: it came behind a sync that succeeded
  pub durable : disk.honest left → Only (disk.reads device) (disk.may_leave left)
      ⊎ ((fault ≡ world_fault.Store store_fault.Device) × HasFailedToSync disk device left)
  -- where a stop left one image before, as after a sync, it leaves that one
  pub still : disk.honest left → (image : List ℕ) → Only image (disk.may_leave device)
      → Only image (disk.may_leave left) × (disk.reads left ≡ image)
  pub any_moment : disk.honest left → LeavesOnly disk device left (disk.may_leave device)
