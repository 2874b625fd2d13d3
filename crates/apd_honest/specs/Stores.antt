-- What making, recovering and copying a store leave of devices that are always honest, outright: with no premise on what a
-- read gave. The lengths, the faults that may come and the counts of failures are said of every device, where each call is.
use Rattle.std.specs.Prelude.{◌≡◌, ◌≢◌, ◌≤◌, ◌+◌, ◌⊎◌, ◌↔◌, ℕ, List}
use Rattle.apd_base.specs.State.{State}
use Rattle.apd_base.specs.declared.limits.TheConstants.{DEVICE_LENGTH}
use Rattle.apd_disk.specs.Disk.{LeavesOnly, Only, DiskModel}
use Rattle.apd_store.specs.Commit.{IsIdle}
use Rattle.apd_store.specs.Image.{IsMarked, IsMarkedOld, MayBeMade, Shows, ShowsNone, ShowsNoneOld, ShowsOld}
use Rattle.apd_store.specs.Outside.{store_device}
use Rattle.apd_store.specs.Recovery.{HasFailedToSync}
use Rattle.apd_store.specs.Upgrading.{IsOnlyRead}
use Rattle.apd_store.specs.declared.fault.StoreFault.{StoreFault}
use Rattle.apd_store.specs.declared.fault.StoreFault.TheVariants.{NotAStore, OldVersion, NewVersion, Damaged, Device, NoMemory}
use Rattle.apd_store.specs.declared.store.Store.{Store}

-- it is honest before and after, or neither
abbrev pub StaysHonest : {D : Type 0} → DiskModel D → D → D → Type 0
StaysHonest disk old new = disk.honest old ↔ disk.honest new

-- the device was synced and read, never written; it reads as before, and a stop leaves nothing else from now on
pub record IsReadWhole {D : Type 0} (disk : DiskModel D) (device left : D) : Type 0 where
  pub honest : StaysHonest disk device left
  pub only_read : IsOnlyRead disk device left
  pub stays : disk.reads left ≡ disk.reads device
  pub durable : Only (disk.reads device) (disk.may_leave left)

-- it was never written, and this fault came; what it reads is durable where the first call, a sync, succeeded
pub record IsReadInPart {D : Type 0} (disk : DiskModel D) (device left : D) (fault : StoreFault) : Type 0 where
  pub honest : StaysHonest disk device left
  pub only_read : IsOnlyRead disk device left
  pub stays : fault ≢ Device → disk.reads left ≡ disk.reads device
  pub durable : Only (disk.reads device) (disk.may_leave left) ⊎ ((fault ≡ Device) × HasFailedToSync disk device left)

-- ---- recovery
-- the state that the device's bytes show is found
pub record IsRecoveredOutright {D : Type 0} (disk : DiskModel D) (device : D) (store : Store D) (state : State)
    : Type 0 where
  pub shown : Shows (disk.reads device) state
  pub read : IsReadWhole disk device (store_device store)
  pub idle : IsIdle disk store state

-- None is found, and the bytes show why. So where they show a state, it is found, unless a call failed or memory ran out.
pub record IsNotRecoveredOutright {D : Type 0} (disk : DiskModel D) (device left : D) (fault : StoreFault)
    : Type 0 where
  pub none : fault ≢ Device → fault ≢ NoMemory → ShowsNone (disk.reads device)
  pub not_a_store : fault ≡ NotAStore → (¬ IsMarked (disk.reads device)) × (¬ IsMarkedOld (disk.reads device))
  pub old_version : fault ≡ OldVersion → IsMarkedOld (disk.reads device)
  pub damaged : fault ≡ Damaged → IsMarked (disk.reads device)
  pub read : IsReadInPart disk device left fault

-- ---- a new store
-- on its way to a store of a state a device is left by a stop as it could be before, as no store, or as one of that state
pub record IsLaidOutright {D : Type 0} (disk : DiskModel D) (state : State) (device left : D) : Type 0 where
  pub honest : StaysHonest disk device left
  pub any_moment : LeavesOnly disk device left (MayBeMade state (disk.may_leave device))
  pub calls : disk.moment left ≤ disk.moment device + 9

-- it is one, and a stop leaves nothing else from now on
pub record IsMadeOutright {D : Type 0} (disk : DiskModel D) (state : State) (device : D) (store : Store D)
    : Type 0 where
  pub laid : IsLaidOutright disk state device (store_device store)
  pub idle : IsIdle disk store state
  pub shown : (image : List ℕ) → disk.may_leave (store_device store) image → Shows image state

-- ---- a copy of a store of version 1
-- the new device is a store of the state that the old one shows by its version
pub record IsUpgradedOutright {O N : Type 0} (from : DiskModel O) (to : DiskModel N) (old left : O) (new : N)
    (store : Store N) : Type 0 where
  pub state : State
  pub shown : ShowsOld (from.reads old) state
  pub old_read : IsReadWhole from old left
  pub made : IsMadeOutright to state new store

-- There is none, and the old one's bytes show why, or the new one's length does. That one is as it was, or on its way.
pub record IsNotUpgradedOutright {O N : Type 0} (from : DiskModel O) (to : DiskModel N) (old left : O) (new new_left : N)
    (fault : StoreFault) : Type 0 where
  pub none : fault ≢ Device → fault ≢ NoMemory → to.size new ≡ DEVICE_LENGTH → ShowsNoneOld (from.reads old)
  pub new_version : fault ≡ NewVersion → IsMarked (from.reads old)
  pub damaged : fault ≡ Damaged → IsMarkedOld (from.reads old)
  pub old_read : IsReadInPart from old left fault
  pub honest : StaysHonest to new new_left
  pub new_is : (new_left ≡ new)
      ⊎ ((state : State) × ShowsOld (from.reads old) state × IsLaidOutright to state new new_left)
