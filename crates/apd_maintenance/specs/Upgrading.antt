-- What `apd upgrade` leaves of two devices: a copy that is told of, one that could not be told of, or devices that were
-- refused.
use Rattle.std.specs.Prelude.{◌≡◌, List, ℕ}
use Rattle.apd_base.specs.declared.limits.TheConstants.{DEVICE_LENGTH}
use Rattle.apd_disk.specs.Disk.{DiskModel}
use Rattle.apd_store.specs.Image.{Shows}
use Rattle.apd_store.specs.Upgrading.{HasNoneGiven, IsBeingMade, IsNotUpgraded}
use Rattle.apd_maintenance.specs.declared.upgrading.UpgradeFault.{UpgradeFault}
use Rattle.apd_maintenance.specs.declared.upgrading.UpgradeFault.TheVariants as fault

-- Both devices have a store's length, and none of their calls failed. The new one, where it is honest, is a store of the
-- state that an honest old one shows by its version, which alone a stop leaves of it from now on.
pub record IsCopied {O N : Type 0} (from : DiskModel O) (to : DiskModel N) (old left : O) (new made : N) : Type 0 where
  pub old_length : from.size old ≡ DEVICE_LENGTH
  pub length : to.size new ≡ DEVICE_LENGTH
  pub old_count : from.failed left ≡ from.failed old
  pub count : to.failed made ≡ to.failed new
  pub old_was_honest : from.honest left → from.honest old
  pub was_honest : to.honest made → to.honest new
  pub on_its_way : IsBeingMade from to old left new made
  pub none_given : HasNoneGiven on_its_way.state
  pub shown : to.honest made → (image : List ℕ) → to.may_leave made image → Shows image on_its_way.state
  pub old_stays : from.honest left → from.reads left ≡ from.reads old

-- no copy is told of: a device was refused, as the copying refuses it; or there is one, which could not be told of
abbrev pub IsNotCopied : {O N : Type 0} → DiskModel O → DiskModel N → O → O → N → N → UpgradeFault → Type 0
IsNotCopied from to old left new new_left (fault.Store why) = IsNotUpgraded from to old left new new_left why
IsNotCopied from to old left new new_left fault.Writer = IsCopied from to old left new new_left
