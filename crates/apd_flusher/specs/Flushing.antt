-- A flusher between batches, in one, and after a fault; and what a stop then shows.
use Rattle.std.specs.Prelude.{◌≡◌, ◌≤◌, ◌<◌, ◌+◌, ◌^◌, ◌⊎◌, ℕ, List}
use Rattle.apd_base.specs.Failures.{HasRisen}
use Rattle.apd_base.specs.State.{State}
use Rattle.apd_record.specs.declared.change.Change.{Change}
use Rattle.apd_table.specs.Sound.{StaySound}
use Rattle.apd_disk.specs.Disk.{DiskModel}
use Rattle.apd_journal.specs.Half.{IsGroup}
use Rattle.apd_store.specs.Image.{Shows}
use Rattle.apd_store.specs.Commit.{IsIdle, IsCommitting, HasFailed, HasRoom as StoreHasRoom}
use Rattle.apd_store.specs.Outside.{IsInside as StoreIsInside}
use Rattle.apd_store.specs.declared.fault.StoreFault.{StoreFault}
use Rattle.apd_store.specs.declared.fault.StoreFault.TheVariants as store_fault
use Rattle.apd_flusher.specs.Outside.{flusher_device, phase_of, table_of, epoch_of}
use Rattle.apd_flusher.specs.declared.flusher.Flusher.{Flusher}
use Rattle.apd_flusher.specs.declared.phase.Phase.{Phase}
use Rattle.apd_flusher.specs.declared.phase.Phase.TheVariants.{Idle, Busy, Done, Failed}

-- no batch is under way: the table and what the device shows are the state
pub record IsSteady {D : Type 0} (disk : DiskModel D) (flusher : Flusher D)
    (state : State) : Type 0 where
  pub idle : IsIdle disk flusher.store state
  pub table : flusher.tables.table ≡ state

-- a batch is under way from one state to the next, and its receipt is not given
pub record IsFlushing {D : Type 0} (disk : DiskModel D) (flusher : Flusher D)
    (state after : State) : Type 0 where
  pub committing : IsCommitting disk flusher.store state after
  pub table : flusher.tables.table ≡ state
  pub next : flusher.tables.staged ≡ after

-- a call of a batch has failed: a stop leaves one of the two states, for good
abbrev pub IsStuck : {D : Type 0} → DiskModel D → Flusher D → State → State → Type 0
IsStuck disk flusher state after = HasFailed disk flusher.store state after

-- one of the three: at the first state, or on the way to the second
abbrev pub Stands : {D : Type 0} → DiskModel D → Flusher D → State → State → Type 0
Stands disk flusher state after =
    IsSteady disk flusher state ⊎ IsFlushing disk flusher state after
    ⊎ IsStuck disk flusher state after

-- What a stop shows, by the phase and how many calls are left. Within a call these are of the moment before it.
abbrev pub StopShows : Phase → ℕ → State → State → List ℕ → Type 0
StopShows Idle calls state after image = Shows image state
StopShows Busy calls state after image = Shows image state ⊎ ((calls ≤ 2) × Shows image after)
StopShows Done calls state after image = Shows image after
StopShows Failed calls state after image = Shows image state ⊎ Shows image after

-- the changes are a group, and leave the state sound one after another
abbrev pub IsGood : List Change → State → Type 0
IsGood changes state = IsGroup changes × StaySound changes state

-- there are no changes, or their group fits behind what is committed
abbrev pub HasRoom : {D : Type 0} → Flusher D → List Change → Type 0
HasRoom flusher changes = StoreHasRoom flusher.store changes

-- the store lies inside its device, whatever the device keeps of it
abbrev pub IsInside : {D : Type 0} → DiskModel D → Flusher D → Type 0
IsInside disk flusher = StoreIsInside disk flusher.store

-- nothing but want of memory and the device can keep a batch of these changes from its receipt
pub record MayCommit {D : Type 0} (disk : DiskModel D) (flusher : Flusher D) (changes : List Change) : Type 0 where
  pub idle : phase_of flusher ≡ Idle
  pub inside : IsInside disk flusher
  pub good : IsGood changes (table_of flusher)
  pub lasts : ¬ HasRoom flusher changes → epoch_of flusher + 1 < 2 ^ 64

-- why a batch of these changes got no receipt, by the fault that was told
abbrev pub IsRefused : {D : Type 0} → DiskModel D → StoreFault → List Change → Flusher D → Flusher D → Type 0
IsRefused disk store_fault.NotIdle changes old new = (phase_of old ≡ Busy) ⊎ (phase_of old ≡ Done)
IsRefused disk store_fault.BadBatch changes old new = ¬ IsGood changes (table_of old)
-- there is no room, and no half can begin anew
IsRefused disk store_fault.Worn changes old new = (¬ HasRoom old changes) × (2 ^ 64 ≤ epoch_of old + 1)
-- the device failed before
IsRefused disk store_fault.Failed changes old new = IsInside disk old → phase_of old ≡ Failed
-- or in this commit
IsRefused disk store_fault.Device changes old new =
    HasRisen (disk.failed (flusher_device old)) (disk.failed (flusher_device new))
IsRefused disk store_fault.NoMemory changes old new = Unit {0}
-- nothing else is told
IsRefused disk fault changes old new = ⊥
