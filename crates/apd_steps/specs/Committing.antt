-- What a step does to a core, by the calls that it made of it, and to its committer (own).
use Rattle.std.specs.Prelude.{◌≡◌, ◌⊎◌, ◌↔◌, ◌+◌, Option, Some, None, Result, Ok, Err, IsSome}
use Rattle.std.specs.declared.alloc.AllocError.{AllocError}
use Rattle.apd_journal.specs.declared.batch.Batch.{Batch}
use Rattle.apd_store.specs.declared.fault.StoreFault.{StoreFault}
use Rattle.apd_store.specs.declared.fault.StoreFault.TheVariants as store_fault
use Rattle.apd_store.specs.declared.store.Receipt.{Receipt}
use Rattle.apd_flusher.specs.Handing.{HasNoReceipt, IsLoadGiven, IsNextReceipt}
use Rattle.apd_flusher.specs.Outside.{calls_left, flusher_batch, flusher_device, flusher_of, next_of, phase_of, table_of, waiting_batch, waiting_receipt}
use Rattle.apd_flusher.specs.declared.committer.Committer.{Committer}
use Rattle.apd_flusher.specs.declared.flusher.Flusher.{Flusher}
use Rattle.apd_flusher.specs.declared.phase.Phase.TheVariants as phase
use Rattle.apd_core.specs.declared.publish_fault.PublishFault.{PublishFault}
use Rattle.apd_steps.specs.Calls.{FailTells, Made, PublishTells, TakeTells}

abbrev pub SameDevice : {D : Type 0} → Committer D → Committer D → Type 0
SameDevice old new = flusher_device (flusher_of new) ≡ flusher_device (flusher_of old)

-- a call was made, and how many are left; or it was refused
abbrev pub CallTells : {D : Type 0} → Result (Unit {0}) StoreFault → Flusher D → Flusher D → Type 0
CallTells (Ok _) old new = (calls_left new + 1 ≡ calls_left old) × ((phase_of new ≡ phase.Done) ↔ (calls_left old ≡ 1))
    × ((phase_of new ≡ phase.Busy) ⊎ (phase_of new ≡ phase.Done))
CallTells (Err fault) old new =
    (phase_of new ≡ phase.Failed) × (phase_of old ≡ phase.Failed → fault ≡ store_fault.Failed)
    × ((fault ≡ store_fault.Device) ⊎ (fault ≡ store_fault.Failed))

abbrev pub HasNoCall : {D : Type 0} → Committer D → Type 0
HasNoCall c = (phase_of (flusher_of c) ≡ phase.Idle) ⊎ (phase_of (flusher_of c) ≡ phase.Done)

-- a receipt that is refused waits
abbrev pub kept_receipt : Result (Unit {0}) PublishFault → Receipt → Option Receipt
kept_receipt (Ok _) receipt = None
kept_receipt (Err fault) receipt = Some receipt

module _ {A : Type 0} (made : Made A) where
  -- the core fails with the device
  abbrev pub CoreGoes : Result (Unit {0}) StoreFault → A → A → Type 0
  CoreGoes (Ok _) core after = after ≡ core
  CoreGoes (Err store_fault.Device) core after = made FailTells core after
  CoreGoes (Err fault) core after = after ≡ core

  -- ---- taking
  module _ {D : Type 0} where
    -- what the committer is handed: nothing where a batch waits there, or else what the core gives
    abbrev pub IsGivenBy : Option Batch → A → A → Committer D → Type 0
    IsGivenBy given core after old =
        (IsSome (waiting_batch old) × (given ≡ None) × (after ≡ core))
        ⊎ ((waiting_batch old ≡ None) × made (TakeTells (Ok given)) core after)

    -- the batch that waits, or else the one that the core gave, was loaded, or was refused and waits
    pub record IsTakenUp (given : Option Batch) (answer : Result (Unit {0}) StoreFault) (core after : A)
        (old new : Committer D) : Type 0 where
      pub from : IsGivenBy given core after old
      pub load : IsLoadGiven answer given old new
      pub device : SameDevice old new

    -- where none waits and the core gives none, or lacks memory for one, nothing is done
    abbrev pub Takes : Option Batch → Result (Option (Result (Unit {0}) StoreFault)) AllocError → A → A → Committer D
        → Committer D → Type 0
    Takes given (Ok (Some answer)) core after old new = IsTakenUp given answer core after old new
    Takes given (Ok None) core after old new =
        (given ≡ None) × (waiting_batch old ≡ None) × made (TakeTells (Ok None)) core after × (new ≡ old)
    Takes given (Err short) core after old new =
        (given ≡ None) × (waiting_batch old ≡ None) × made (TakeTells (Err short)) core after × (new ≡ old)

    -- ---- calling
    pub record IsCalled (answer : Result (Unit {0}) StoreFault) (core after : A) (old new : Committer D) : Type 0 where
      pub some_call : (phase_of (flusher_of old) ≡ phase.Busy) ⊎ (phase_of (flusher_of old) ≡ phase.Failed)
      pub core_goes : CoreGoes answer core after
      pub tells : CallTells answer (flusher_of old) (flusher_of new)
      pub batch_is : flusher_batch (flusher_of new) ≡ flusher_batch (flusher_of old)
      pub table : table_of (flusher_of new) ≡ table_of (flusher_of old)
      pub next : next_of (flusher_of new) ≡ next_of (flusher_of old)
      pub batch : waiting_batch new ≡ waiting_batch old
      pub receipt : waiting_receipt new ≡ waiting_receipt old

    abbrev pub Calls : Option (Result (Unit {0}) StoreFault) → A → A → Committer D → Committer D → Type 0
    Calls (Some answer) core after old new = IsCalled answer core after old new
    Calls None core after old new = HasNoCall old × (after ≡ core) × (new ≡ old)

    -- ---- publishing
    -- the next receipt was published, or was refused and waits
    pub record IsPublished (receipt : Receipt) (answer : Result (Unit {0}) PublishFault) (core after : A)
        (old new : Committer D) : Type 0 where
      pub next : IsNextReceipt receipt old new
      pub tells : made (PublishTells answer receipt) core after
      pub kept : waiting_receipt new ≡ kept_receipt answer receipt
      pub batch : waiting_batch new ≡ waiting_batch old
      pub device : SameDevice old new

    abbrev pub Publishes : Option Receipt → Option (Result (Unit {0}) PublishFault) → A → A → Committer D → Committer D
        → Type 0
    Publishes (Some receipt) (Some answer) core after old new = IsPublished receipt answer core after old new
    Publishes None None core after old new = HasNoReceipt old × (after ≡ core) × (new ≡ old)
    Publishes receipt told core after old new = ⊥
