-- What worlds begun on devices that are always honest keep, outright: with no premise on what a read gave.
use Rattle.std.specs.Prelude.{◌≡◌, ◌⊎◌, ℕ, List}
use Rattle.apd_base.specs.declared.moment.Moment.{Moment}
use Rattle.apd_conf.specs.declared.conf.Conf.{Conf}
use Rattle.apd_disk.specs.Disk.{LeavesOnly, Only, DiskModel}
use Rattle.apd_radio.specs.Model.{RadioModel}
use Rattle.apd_store.specs.Image.{IsMarked, IsMarkedOld, Shows, ShowsNone}
use Rattle.apd_store.specs.Recovery.{HasFailedToSync}
use Rattle.apd_store.specs.declared.fault.StoreFault.TheVariants as store_fault
use Rattle.apd_world.specs.BegunAnew.{IsBegunAnew}
use Rattle.apd_world.specs.History.{History, Keeps, after}
use Rattle.apd_world.specs.Outside.{device_of}
use Rattle.apd_world.specs.Proper.{IsProper}
use Rattle.apd_world.specs.SafelyMade.{LeadsSince}
use Rattle.apd_world.specs.WorldParts.{durable_of}
use Rattle.apd_world.specs.declared.durable_core.DurableCore.{DurableCore}
use Rattle.apd_world.specs.declared.fault.WorldFault.{WorldFault}
use Rattle.apd_world.specs.declared.fault.WorldFault.TheVariants as fault
use Rattle.apd_world.specs.declared.step.Step.{Step}
use Rattle.apd_world.specs.declared.step.Told.{Told}
use Rattle.apd_world.specs.declared.world.World.{World}
use Rattle.apd_honest.specs.Stores.{StaysHonest}

-- the table is the state that the device's bytes show; where a history kept those, as a stop leaves them, what it kept
pub record IsBegunOutright {D : Type 0} (disk : DiskModel D) (device : D) (new : DurableCore D) : Type 0 where
  pub honest : StaysHonest disk device (device_of new)
  pub shown : Shows (disk.reads device) new.core.settled
  pub recovered : (old last : History) (kept : Keeps old last (disk.reads device))
      → new.core.settled ≡ after last kept.front
  pub proper : IsProper disk new
  pub images : Only (disk.reads device) (disk.may_leave (device_of new))
  pub any_moment : LeavesOnly disk device (device_of new) (disk.may_leave device)

-- No world is begun, and the bytes show why. So where they show a state, one is begun, unless a call failed, memory ran out
-- or a slot has not resumed.
pub record IsNotBegunOutright {D : Type 0} (disk : DiskModel D) (device left : D) (why : WorldFault) : Type 0 where
  pub honest : StaysHonest disk device left
  pub none : (why ≡ fault.Store store_fault.NotAStore) ⊎ (why ≡ fault.Store store_fault.OldVersion)
      ⊎ (why ≡ fault.Store store_fault.Damaged) → ShowsNone (disk.reads device)
  pub not_a_store : why ≡ fault.Store store_fault.NotAStore
      → (¬ IsMarked (disk.reads device)) × (¬ IsMarkedOld (disk.reads device))
  pub old_version : why ≡ fault.Store store_fault.OldVersion → IsMarkedOld (disk.reads device)
  pub damaged : why ≡ fault.Store store_fault.Damaged → IsMarked (disk.reads device)
  pub durable : Only (disk.reads device) (disk.may_leave left)
      ⊎ ((why ≡ fault.Store store_fault.Device) × HasFailedToSync disk device left)
  pub still : (image : List ℕ) → Only image (disk.may_leave device)
      → Only image (disk.may_leave left) × (disk.reads left ≡ image)
  pub any_moment : LeavesOnly disk device left (disk.may_leave device)

-- The world begun anew from these bytes has the state after some of what happened, from the front, with all that was durable
-- of the first history, so all that had been said by then.
abbrev pub IsBegunKeeping : {D : Type 0} → DiskModel D → History → History → List ℕ → Type 0
IsBegunKeeping {D} disk between later image =
    (kept : Keeps between later image)
    × ((device : D) (confs : List Conf) (m : Moment) (next : DurableCore D) → disk.reads device ≡ image
    → IsBegunAnew disk device confs m next → next.core.settled ≡ after later kept.front)

-- So many of the steps made, and at any moment since, inside a step or between two: what a stop leaves is so.
pub record LosesNothingTold {D R : Type 0} (disk : DiskModel D) (radio : RadioModel R) (count : ℕ) (steps : List Step)
    (tolds : List Told) (old new : World D R) (h : History) : Type 0 where
  pub since : LeadsSince disk radio count steps tolds old new h
  pub kept : LeavesOnly disk (device_of (durable_of since.mid)) (device_of (durable_of new))
      (IsBegunKeeping disk since.between since.later)
