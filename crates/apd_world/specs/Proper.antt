-- The durable cores of which something is said of a stop: the committer stands where the core takes it to be (own).
use Rattle.std.specs.Prelude.{◌≡◌, ◌⊎◌, ◌≤◌, ◌+◌, IsSome, Err}
use Rattle.apd_world.specs.Words.{Called, CoreState, DiskModel, DurableCore, HasRisen, LeavesOnly, Told, new_core, phase_of, waiting_receipt}
use Rattle.apd_flusher.specs.Committing as committer
use Rattle.apd_flusher.specs.declared.phase.Phase.TheVariants as phase
use Rattle.apd_store.specs.declared.fault.StoreFault.TheVariants as store_fault
use Rattle.apd_world.specs.Shown.{AreAfterFlight, AreOfFlight, ShowsEither, flight_of}
use Rattle.apd_world.specs.Outside.{device_of, flusher_of}

-- the committer stands where the core takes it to be, whatever the device keeps of it
abbrev pub IsWhole : {D : Type 0} → DiskModel D → DurableCore D → Type 0
IsWhole disk w = committer.IsWhole disk w.committer w.core.settled (flight_of w.core) w.core.failed

-- and its images show it
pub record IsProper {D : Type 0} (disk : DiskModel D) (w : DurableCore D) : Type 0 where
  pub whole : IsWhole disk w
  pub imaged : committer.IsImaged disk w.committer

-- Between two steps: a stop leaves images of the settled state, or of that after the batch in flight; from the batch's last call on, if
-- that succeeded, or from its load on where it has no changes and so no call, until it is published, of that after the batch.
pub record IsShown {D : Type 0} (disk : DiskModel D) (w : DurableCore D) : Type 0 where
  pub now : AreOfFlight w.core (disk.may_leave (device_of w))
  pub durable : (phase_of (flusher_of w) ≡ phase.Done) ⊎ IsSome (waiting_receipt w.committer)
      → AreAfterFlight w.core (disk.may_leave (device_of w))

-- a core that accepted nothing yet
abbrev pub IsUnused : CoreState → Type 0
IsUnused s = s ≡ new_core s.settled s.confs s.heard

-- A step from a whole one leaves one, and from a proper one a proper one; then a stop since its start leaves an image of the settled state,
-- or of that after the batch in flight.
pub record IsSafe {D : Type 0} (disk : DiskModel D) (old new : DurableCore D) : Type 0 where
  pub whole : IsWhole disk old → IsWhole disk new
  pub proper : IsProper disk old → IsProper disk new
  pub inside : IsProper disk old → LeavesOnly disk (device_of old) (device_of new) (ShowsEither old.core)

-- a stop before it, and one after it, is safe
abbrev pub IsSafeAtBoth : {D : Type 0} → DiskModel D → DurableCore D → DurableCore D → Type 0
IsSafeAtBoth disk old new = IsSafe disk old old × IsSafe disk new new

-- A step that told so is safe. It makes one call of the device at most; the device's failures never fall, and rise where the step tells
-- that the device failed.
pub record IsStepMade {D : Type 0} (disk : DiskModel D) (told : Told) (old new : DurableCore D) : Type 0 where
  pub safe : IsSafe disk old new
  pub one_call : disk.honest (device_of old) → disk.moment (device_of new) ≤ disk.moment (device_of old) + 1
  pub count : disk.failed (device_of old) ≤ disk.failed (device_of new)
  pub fault : told ≡ Called (Err store_fault.Device) → HasRisen (disk.failed (device_of old)) (disk.failed (device_of new))
