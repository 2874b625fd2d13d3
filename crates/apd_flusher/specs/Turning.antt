-- One turn of a flusher: the next call of a batch where one is left, and else nothing.
use Rattle.std.specs.Prelude.{◌≡◌, ◌≢◌, ◌≤◌, ◌<◌, ◌+◌, ◌⊎◌, ◌↔◌, Result, OnOk, OnErr}
use Rattle.apd_base.specs.Failures.{HasRisen}
use Rattle.apd_base.specs.State.{State}
use Rattle.apd_disk.specs.Disk.{LeavesOnly, DiskModel}
use Rattle.apd_store.specs.declared.fault.StoreFault.{StoreFault}
use Rattle.apd_store.specs.declared.fault.StoreFault.TheVariants as store_fault
use Rattle.apd_flusher.specs.Flushing.{IsFlushing, IsInside, IsStuck, Stands, StopShows}
use Rattle.apd_flusher.specs.Outside.{flusher_batch, calls_left, flusher_device, next_of, phase_of, table_of}
use Rattle.apd_flusher.specs.declared.flusher.Flusher.{Flusher}
use Rattle.apd_flusher.specs.declared.phase.Phase.TheVariants.{Busy, Done, Failed}

-- however it ended
pub record IsTurn {D : Type 0} (disk : DiskModel D) (old new : Flusher D) : Type 0 where
  -- one call at most, which takes the device's moment on by one at most
  pub one_call : disk.honest (flusher_device old)
      → disk.moment (flusher_device new) ≤ disk.moment (flusher_device old) + 1
  pub rest : phase_of old ≢ Busy → new ≡ old
  pub batch_is : flusher_batch new ≡ flusher_batch old
  pub table : table_of new ≡ table_of old
  pub next : next_of new ≡ next_of old
  pub stays_honest : disk.honest (flusher_device old) ↔ disk.honest (flusher_device new)
  pub inside : IsInside disk old → IsInside disk new
  pub count : disk.failed (flusher_device old) ≤ disk.failed (flusher_device new)

-- the call succeeded, or none was left
pub record IsTurned {D : Type 0} (disk : DiskModel D) (old new : Flusher D) : Type 0 where
  pub step : phase_of old ≡ Busy → calls_left new + 1 ≡ calls_left old
  pub busy : phase_of old ≡ Busy → (phase_of new ≡ Busy) ⊎ (phase_of new ≡ Done)
  pub done : (phase_of new ≡ Done) ↔ ((calls_left old ≡ 1) ⊎ (phase_of old ≡ Done))
  pub no_fault : disk.failed (flusher_device new) ≡ disk.failed (flusher_device old)

-- it ended with this fault
pub record IsNotTurned {D : Type 0} (disk : DiskModel D) (old new : Flusher D) (fault : StoreFault) : Type 0 where
  pub phase : phase_of new ≡ Failed
  pub few : (fault ≡ store_fault.Device) ⊎ (fault ≡ store_fault.Failed)
  pub only_after : IsInside disk old → fault ≡ store_fault.Failed → phase_of old ≡ Failed
  pub no_call : fault ≡ store_fault.Failed → flusher_device new ≡ flusher_device old
  pub device_failed : fault ≡ store_fault.Device
      → HasRisen (disk.failed (flusher_device old)) (disk.failed (flusher_device new))

-- on its way from one state to the next: of an honest device
pub record IsTurnBetween {D : Type 0} (disk : DiskModel D) (state after : State) (result : Result (Unit {0}) StoreFault)
    (old new : Flusher D) : Type 0 where
  -- a stop at some moment since it began shows what the phase before it says
  pub any_moment : disk.honest (flusher_device old) → Stands disk old state after
      → LeavesOnly disk (flusher_device old) (flusher_device new)
      (StopShows (phase_of old) (calls_left old) state after)
  pub on : disk.honest (flusher_device old) → IsFlushing disk old state after
      → OnOk result (IsFlushing disk new state after)
  pub stuck : disk.honest (flusher_device old) → IsFlushing disk old state after
      → OnErr result (IsStuck disk new state after)
  pub stuck_early : disk.honest (flusher_device old) → IsFlushing disk old state after → 2 < calls_left old
      → OnErr result (IsStuck disk new state state)
