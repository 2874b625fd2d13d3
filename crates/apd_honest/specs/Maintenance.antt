-- What the subcommands without threads leave of devices that are always honest, outright: with no premise on what a read
-- gave. What each prints is said of every device, where each is.
use Rattle.std.specs.Prelude.{◌≡◌, ◌≤◌, ◌+◌, ◌⊎◌, ℕ, List}
use Rattle.apd_base.specs.State.{State, empty_state}
use Rattle.apd_disk.specs.Disk.{LeavesOnly, DiskModel}
use Rattle.apd_maintenance.specs.Missing.{AreAStore, AreZeros}
use Rattle.apd_store.specs.Image.{MayBeMade, Shows, ShowsOld}
use Rattle.apd_honest.specs.Stores.{IsLaidOutright, IsReadWhole, StaysHonest}

-- the state that the device's bytes show is found, and the device was only read
pub record IsCheckedOutright {D : Type 0} (disk : DiskModel D) (device left : D) (state : State) : Type 0 where
  pub shown : Shows (disk.reads device) state
  pub read : IsReadWhole disk device left

-- it is a store of the state, and a stop leaves nothing else from now on
pub record IsStoreOutright {D : Type 0} (disk : DiskModel D) (state : State) (device made : D) : Type 0 where
  pub laid : IsLaidOutright disk state device made
  pub shown : (image : List ℕ) → disk.may_leave made image → Shows image state

-- what is there is kept: it is a store, and was only read
pub record IsKeptOutright {D : Type 0} (disk : DiskModel D) (device left : D) : Type 0 where
  pub honest : StaysHonest disk device left
  pub is_there : AreAStore (disk.reads device)
  pub stays : disk.reads left ≡ disk.reads device
  pub any_moment : LeavesOnly disk device left (disk.may_leave device)
  pub calls : disk.moment left ≤ disk.moment device + 1

-- of zeros a store of the empty table was made
pub record IsMadeOfZerosOutright {D : Type 0} (disk : DiskModel D) (device made : D) : Type 0 where
  pub honest : StaysHonest disk device made
  pub zeros : AreZeros (disk.reads device)
  pub empty : (image : List ℕ) → disk.may_leave made image → Shows image empty_state
  pub any_moment : LeavesOnly disk device made (MayBeMade empty_state (disk.may_leave device))
  pub calls : disk.moment made ≤ disk.moment device + 10

-- one of the two
abbrev pub IsThereOutright : {D : Type 0} → DiskModel D → D → D → Type 0
IsThereOutright disk device left = IsKeptOutright disk device left ⊎ IsMadeOfZerosOutright disk device left

-- the new device is a store of the state that the old one shows by its version, and the old one was only read
pub record IsCopiedOutright {O N : Type 0} (from : DiskModel O) (to : DiskModel N) (old left : O) (new made : N)
    : Type 0 where
  pub state : State
  pub shown : ShowsOld (from.reads old) state
  pub old_stays : from.reads left ≡ from.reads old
  pub store : IsStoreOutright to state new made
