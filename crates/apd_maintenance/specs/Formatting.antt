-- What `apd format` leaves of a device: a store that is told of, one that could not be told of, or a device that was refused.
use Rattle.std.specs.Prelude.{◌≡◌, ◌≤◌, ◌+◌, ℕ, List}
use Rattle.apd_base.specs.State.{empty_state}
use Rattle.apd_base.specs.declared.limits.TheConstants.{DEVICE_LENGTH}
use Rattle.apd_disk.specs.Disk.{LeavesOnly, DiskModel}
use Rattle.apd_store.specs.Formatting.{IsNotFormatted}
use Rattle.apd_store.specs.Image.{MayBeMade, Shows}
use Rattle.apd_maintenance.specs.declared.formatting.FormatFault.{FormatFault}
use Rattle.apd_maintenance.specs.declared.formatting.FormatFault.TheVariants as fault

-- the device has a store's length, and none of its calls failed; an honest one is a store of the empty table, which alone
-- a stop leaves from now on
pub record IsNewStore {D : Type 0} (disk : DiskModel D) (device made : D) : Type 0 where
  pub length : disk.size device ≡ DEVICE_LENGTH
  pub count : disk.failed made ≡ disk.failed device
  pub was_honest : disk.honest made → disk.honest device
  pub empty : disk.honest made → (image : List ℕ) → disk.may_leave made image → Shows image empty_state
  pub any_moment : disk.honest made → LeavesOnly disk device made (MayBeMade empty_state (disk.may_leave device))
  pub calls : disk.honest made → disk.moment made ≤ disk.moment device + 9

-- no store is told of: the device was refused, as the making of a store refuses it; or it is one, which could not be told of
abbrev pub IsNotTold : {D : Type 0} → DiskModel D → D → D → FormatFault → Type 0
IsNotTold disk device left (fault.Store why) = IsNotFormatted disk device left why
IsNotTold disk device left fault.Writer = IsNewStore disk device left
