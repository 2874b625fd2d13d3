-- What `apd format --missing` finds on a device, and what it leaves of it. Only zeros are written over.
use Rattle.std.specs.Prelude.{◌≡◌, ◌≤◌, ◌+◌, ◌⊎◌, ℕ, List, Option, codes}
use Rattle.std.specs.Io.KnownBytes.{Appends}
use Rattle.std.specs.List.{AllByRecursion}
use Rattle.apd_base.specs.State.{empty_state}
use Rattle.apd_base.specs.declared.limits.TheConstants.{DEVICE_LENGTH}
use Rattle.apd_disk.specs.Disk.{LeavesOnly, DiskModel}
use Rattle.apd_store.specs.Image.{IsMarked, IsMarkedOld, MayBeMade, Shows}
use Rattle.apd_maintenance.specs.declared.missing.Content.{Content}
use Rattle.apd_maintenance.specs.declared.missing.Content.TheVariants.{Store, Zeros, Other}

-- the bytes are those of a store, of whatever version and also a damaged one: they have its length and begin with a mark
abbrev pub AreAStore : List ℕ → Type 0
AreAStore bytes = IsMarked bytes ⊎ IsMarkedOld bytes

-- each byte is zero, as where the making of a store was cut off
abbrev pub AreZeros : List ℕ → Type 0
AreZeros bytes = AllByRecursion (λ byte. byte ≡ 0) bytes

abbrev pub IsContent : Content → List ℕ → Type 0
IsContent Store bytes = AreAStore bytes
IsContent Zeros bytes = AreZeros bytes
IsContent Other bytes = (¬ (AreAStore bytes)) × (¬ (AreZeros bytes))

-- the device has a store's length, and none of its calls failed; an honest one is a store, and was only read
pub record IsKept {D : Type 0} (disk : DiskModel D) (device left : D) : Type 0 where
  pub length : disk.size device ≡ DEVICE_LENGTH
  pub count : disk.failed left ≡ disk.failed device
  pub was_honest : disk.honest left → disk.honest device
  pub is_there : disk.honest left → AreAStore (disk.reads device)
  pub stays : disk.honest left → disk.reads left ≡ disk.reads device
  pub any_moment : disk.honest left → LeavesOnly disk device left (disk.may_leave device)
  pub calls : disk.honest left → disk.moment left ≤ disk.moment device + 1

-- the same length and count; an honest one of zeros became a store of the empty table, which alone a stop leaves from now on
pub record IsMadeOfZeros {D : Type 0} (disk : DiskModel D) (device made : D) : Type 0 where
  pub length : disk.size device ≡ DEVICE_LENGTH
  pub count : disk.failed made ≡ disk.failed device
  pub was_honest : disk.honest made → disk.honest device
  pub zeros : disk.honest made → AreZeros (disk.reads device)
  pub empty : disk.honest made → (image : List ℕ) → disk.may_leave made image → Shows image empty_state
  pub any_moment : disk.honest made → LeavesOnly disk device made (MayBeMade empty_state (disk.may_leave device))
  pub calls : disk.honest made → disk.moment made ≤ disk.moment device + 10

-- which of the two it was, a writer that held something is told
abbrev pub IsThere : {D : Type 0} → DiskModel D → Option (List ℕ) → Option (List ℕ) → D → D → Type 0
IsThere disk held holds device left =
    (IsKept disk device left × Appends held holds (codes "kept\n"))
    ⊎ (IsMadeOfZeros disk device left × Appends held holds (codes "formatted\n"))

-- where an honest device holds more than zeros, a stop leaves what it could leave before
abbrev pub IsWrittenOverZerosAlone : {D : Type 0} → DiskModel D → D → D → Type 0
IsWrittenOverZerosAlone disk device left =
    disk.honest left → ¬ (AreZeros (disk.reads device)) → LeavesOnly disk device left (disk.may_leave device)
