-- What a committer is handed, what it hands out, and where each is afterwards.
use Rattle.std.specs.Prelude.{◌≡◌, ◌≢◌, ◌⊎◌, ◌↔◌, Option, Some, None, Result, Ok, Err, IsOk}
use Rattle.apd_disk.specs.Disk.{DiskModel}
use Rattle.apd_journal.specs.declared.batch.Batch.{Batch}
use Rattle.apd_store.specs.Outside.{held_batch}
use Rattle.apd_store.specs.declared.fault.StoreFault.{StoreFault}
use Rattle.apd_store.specs.declared.fault.StoreFault.TheVariants as store_fault
use Rattle.apd_store.specs.declared.store.Receipt.{Receipt}
use Rattle.apd_flusher.specs.Committing.{IsImaged}
use Rattle.apd_flusher.specs.Flushing.{IsInside}
use Rattle.apd_flusher.specs.Loading.{IsLoaded, IsNotLoaded}
use Rattle.apd_flusher.specs.Outside.{flusher_batch, flusher_device, flusher_of, next_of, phase_of, table_of, waiting_batch, waiting_receipt}
use Rattle.apd_flusher.specs.Turning.{IsTurn, IsTurned, IsNotTurned}
use Rattle.apd_flusher.specs.declared.committer.Committer.{Committer}
use Rattle.apd_flusher.specs.declared.flusher.Flusher.{Flusher}
use Rattle.apd_flusher.specs.declared.phase.Phase.TheVariants.{Idle, Done, Failed}

-- what every call keeps, whatever the core
pub record Keeps {D : Type 0} (disk : DiskModel D) (old new : Committer D) : Type 0 where
  pub inside : IsInside disk (flusher_of old) → IsInside disk (flusher_of new)
  pub honest : disk.honest (flusher_device (flusher_of old)) ↔ disk.honest (flusher_device (flusher_of new))
  pub imaged : IsImaged disk old → IsImaged disk new

-- ---- a batch
-- the batch that waits, or else the one that is handed in
abbrev pub IsNextBatch : {D : Type 0} → Batch → Option Batch → Committer D → Type 0
IsNextBatch batch given old =
    (waiting_batch old ≡ Some batch) ⊎ ((waiting_batch old ≡ None) × (given ≡ Some batch))

-- the flusher took the batch, or refused it
abbrev pub LoadTells : {D : Type 0} → Result (Unit {0}) StoreFault → Batch → Flusher D → Flusher D → Type 0
LoadTells (Ok _) batch old new = IsLoaded batch old new
LoadTells (Err fault) batch old new = IsNotLoaded fault batch old new

-- a batch that is refused waits
abbrev pub refused_batch : Result (Unit {0}) StoreFault → Batch → Option Batch
refused_batch (Ok _) batch = None
refused_batch (Err fault) batch = Some batch

-- the next batch was loaded, or was refused and waits
pub record IsLoadGiven {D : Type 0} (result : Result (Unit {0}) StoreFault) (given : Option Batch)
    (old new : Committer D) : Type 0 where
  pub batch : Batch
  pub next : IsNextBatch batch given old
  pub tells : LoadTells result batch (flusher_of old) (flusher_of new)
  pub waits : waiting_batch new ≡ refused_batch result batch
  pub receipt : waiting_receipt new ≡ waiting_receipt old

-- there is none
abbrev pub HasNoneToLoad : {D : Type 0} → Option Batch → Committer D → Type 0
HasNoneToLoad given old = (waiting_batch old ≡ None) × (given ≡ None)

-- ---- a turn
abbrev pub TurnTells : {D : Type 0} → DiskModel D → Result (Unit {0}) StoreFault → Flusher D → Flusher D → Type 0
TurnTells disk (Ok _) old new = IsTurned disk old new
TurnTells disk (Err fault) old new = IsNotTurned disk old new fault

-- the flusher made a turn, and what waits stays
pub record IsTurnMade {D : Type 0} (disk : DiskModel D) (result : Result (Unit {0}) StoreFault)
    (old new : Committer D) : Type 0 where
  pub turn : IsTurn disk (flusher_of old) (flusher_of new)
  pub tells : TurnTells disk result (flusher_of old) (flusher_of new)
  pub quiet : (phase_of (flusher_of old) ≡ Idle) ⊎ (phase_of (flusher_of old) ≡ Done) → IsOk result
  pub failed : phase_of (flusher_of old) ≡ Failed → result ≡ Err store_fault.Failed
  pub batch : waiting_batch new ≡ waiting_batch old
  pub receipt : waiting_receipt new ≡ waiting_receipt old

-- ---- a receipt
-- the flusher gave this receipt
pub record IsUnloaded {D : Type 0} (receipt : Receipt) (old new : Flusher D) : Type 0 where
  pub done : phase_of old ≡ Done
  pub batch_is : held_batch receipt ≡ flusher_batch old
  pub idle : phase_of new ≡ Idle
  pub table : table_of new ≡ next_of old

-- the receipt that waited, or else the one that the flusher gave
abbrev pub IsNextReceipt : {D : Type 0} → Receipt → Committer D → Committer D → Type 0
IsNextReceipt receipt old new =
    ((waiting_receipt old ≡ Some receipt) × (flusher_of new ≡ flusher_of old))
    ⊎ ((waiting_receipt old ≡ None) × IsUnloaded receipt (flusher_of old) (flusher_of new))

-- the next receipt was handed out
pub record IsReceiptGiven {D : Type 0} (receipt : Receipt) (old new : Committer D) : Type 0 where
  pub next : IsNextReceipt receipt old new
  pub none : waiting_receipt new ≡ None
  pub batch : waiting_batch new ≡ waiting_batch old

-- there is none
abbrev pub HasNoReceipt : {D : Type 0} → Committer D → Type 0
HasNoReceipt c = (waiting_receipt c ≡ None) × (phase_of (flusher_of c) ≢ Done)
