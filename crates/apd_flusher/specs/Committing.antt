-- Where a committer stands beside its core, which has a settled state, a batch in flight or none, and may have failed; and what a stop then
-- shows. Only what is said of images needs an honest device.
use Rattle.std.specs.Prelude.{◌≡◌, ◌⊎◌, ℕ, List, Bool, true, Option, Some, None, Result, Ok, Err}
use Rattle.apd_base.specs.State.{State}
use Rattle.apd_record.specs.Meaning.{meaning_of}
use Rattle.apd_disk.specs.Disk.{DiskModel}
use Rattle.apd_journal.specs.declared.batch.Batch.{Batch}
use Rattle.apd_store.specs.Image.{Shows}
use Rattle.apd_store.specs.Outside.{held_batch}
use Rattle.apd_store.specs.declared.fault.StoreFault.{StoreFault}
use Rattle.apd_store.specs.declared.fault.StoreFault.TheVariants as store_fault
use Rattle.apd_store.specs.declared.store.Receipt.{Receipt}
use Rattle.apd_flusher.specs.Flushing.{IsGood, IsInside, Stands}
use Rattle.apd_flusher.specs.Outside.{flusher_batch, flusher_device, flusher_of, next_of, phase_of, table_of, waiting_batch, waiting_receipt}
use Rattle.apd_flusher.specs.declared.committer.Committer.{Committer}
use Rattle.apd_flusher.specs.declared.phase.Phase.TheVariants.{Idle, Busy, Done, Failed}

-- the settled state after the batch in flight
abbrev pub state_after_flight : State → Option Batch → State
state_after_flight s None = s
state_after_flight s (Some batch) = meaning_of batch.changes s

module _ {D : Type 0} (c : Committer D) (s : State) where
  -- no batch is in flight
  pub record IsBetween : Type 0 where
    pub batch : waiting_batch c ≡ None
    pub receipt : waiting_receipt c ≡ None
    pub idle : phase_of (flusher_of c) ≡ Idle
    pub table : table_of (flusher_of c) ≡ s

  -- the batch in flight waits, and is refused for want of room or of memory alone
  pub record IsWaiting (batch : Batch) : Type 0 where
    pub waits : waiting_batch c ≡ Some batch
    pub receipt : waiting_receipt c ≡ None
    pub good : IsGood batch.changes s
    pub idle : phase_of (flusher_of c) ≡ Idle
    pub table : table_of (flusher_of c) ≡ s

  -- the flusher has the batch in flight, or has failed with it, and the core too
  pub record IsUnderWay (batch : Batch) (failed : Bool) : Type 0 where
    pub none : waiting_batch c ≡ None
    pub receipt : waiting_receipt c ≡ None
    pub loaded : flusher_batch (flusher_of c) ≡ batch
    pub phase : (phase_of (flusher_of c) ≡ Busy) ⊎ (phase_of (flusher_of c) ≡ Done)
        ⊎ ((phase_of (flusher_of c) ≡ Failed) × (failed ≡ true))
    pub table : table_of (flusher_of c) ≡ s
    pub next : next_of (flusher_of c) ≡ meaning_of batch.changes s

  -- the receipt of the batch in flight waits
  pub record IsDurable (batch : Batch) : Type 0 where
    pub none : waiting_batch c ≡ None
    pub given : Receipt
    pub receipt : waiting_receipt c ≡ Some given
    pub of_batch : held_batch given ≡ batch
    pub idle : phase_of (flusher_of c) ≡ Idle
    pub table : table_of (flusher_of c) ≡ meaning_of batch.changes s

-- one of these
abbrev pub IsInStep : {D : Type 0} → Committer D → State → Option Batch → Bool → Type 0
IsInStep c s None failed = IsBetween c s
IsInStep c s (Some batch) failed = IsWaiting c s batch ⊎ IsUnderWay c s batch failed ⊎ IsDurable c s batch

-- whatever the device keeps of it
pub record IsWhole {D : Type 0} (disk : DiskModel D) (c : Committer D)
    (s : State) (flight : Option Batch) (failed : Bool) : Type 0 where
  pub inside : IsInside disk (flusher_of c)
  pub in_step : IsInStep c s flight failed

-- the device is honest, and its images show the flusher's table, on the way to the next where a batch is under way
pub record IsImaged {D : Type 0} (disk : DiskModel D) (c : Committer D) : Type 0 where
  pub honest : disk.honest (flusher_device (flusher_of c))
  pub stands : Stands disk (flusher_of c) (table_of (flusher_of c)) (next_of (flusher_of c))

-- the image shows the settled state, or that after the batch in flight
abbrev pub ShowsEither : State → Option Batch → List ℕ → Type 0
ShowsEither s flight image = Shows image s ⊎ Shows image (state_after_flight s flight)

-- with the device the core fails
abbrev pub has_failed_after : Result (Unit {0}) StoreFault → Bool → Bool
has_failed_after (Ok _) failed = failed
has_failed_after (Err store_fault.Device) failed = true
has_failed_after (Err fault) failed = failed
