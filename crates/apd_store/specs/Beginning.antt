-- A batch that is begun, or refused.
use Rattle.std.specs.Prelude.{◌≡◌, ◌≢◌, ◌≤◌, ◌<◌, ◌+◌, ◌^◌, ◌⊎◌, ◌↔◌, true, false, [], length}
use Rattle.apd_base.specs.declared.limits.TheConstants.{MAX_GROUP}
use Rattle.apd_base.specs.State.{State}
use Rattle.apd_record.specs.Meaning.{meaning_of}
use Rattle.apd_record.specs.Record.{records_of}
use Rattle.apd_table.specs.Sound.{StaySound}
use Rattle.apd_disk.specs.Disk.{DiskModel}
use Rattle.apd_journal.specs.Half.{IsGroup}
use Rattle.apd_journal.specs.declared.batch.Batch.{Batch}
use Rattle.apd_store.specs.Commit.{HasRoom, IsCommitting, IsIdle}
use Rattle.apd_store.specs.Outside.{store_batch, calls_left, epoch_of, is_other_open, phase_of}
use Rattle.apd_store.specs.Switch.{FitsAnew}
use Rattle.apd_store.specs.declared.fault.StoreFault.{StoreFault}
use Rattle.apd_store.specs.declared.fault.StoreFault.TheVariants as store_fault
use Rattle.apd_store.specs.declared.phase.Phase.TheVariants.{Done, Failed, Idle}
use Rattle.apd_store.specs.declared.store.Store.{Store}

-- the bytes of all calls of the batch are laid down, over a table of everything committed
pub record IsBegun {D : Type 0} (disk : DiskModel D) (batch : Batch) (table : State)
    (old new : Store D) : Type 0 where
  pub was_idle : phase_of old ≡ Idle
  pub batch_is : store_batch new ≡ batch
  pub committing : IsIdle disk old table → IsGroup batch.changes → StaySound batch.changes table
      → IsCommitting disk new table (meaning_of batch.changes table)
  -- a batch of no changes has no call: its receipt is there
  pub no_calls : batch.changes ≡ [] → phase_of new ≡ Done
  pub some_calls : batch.changes ≢ [] → (4 ≤ calls_left new) × (calls_left new ≤ 10)
  pub four_calls : batch.changes ≢ [] → HasRoom old batch.changes → calls_left new ≡ 4
  -- where there is no room behind the closed gate, the other half begins anew
  pub eight_calls : ¬ HasRoom old batch.changes → is_other_open old ≡ false → calls_left new ≡ 8
  pub ten_calls : ¬ HasRoom old batch.changes → is_other_open old ≡ true → calls_left new ≡ 10
  pub anew : ¬ HasRoom old batch.changes → FitsAnew table batch.changes
  pub lasts : ¬ HasRoom old batch.changes → epoch_of old + 1 < 2 ^ 64

-- the batch is refused, for this reason
pub record IsNotBegun {D : Type 0} (batch : Batch) (table : State) (old : Store D)
    (fault : StoreFault) : Type 0 where
  pub failed : (fault ≡ store_fault.Failed) ↔ (phase_of old ≡ Failed)
  pub not_idle : (fault ≡ store_fault.NotIdle) ↔ ((phase_of old ≢ Failed) × (phase_of old ≢ Idle))
  pub bad : fault ≡ store_fault.BadBatch → (¬ HasRoom old batch.changes) × (¬ FitsAnew table batch.changes)
  pub long : fault ≡ store_fault.BadBatch → MAX_GROUP < length (records_of batch.changes)
  pub worn : fault ≡ store_fault.Worn → (¬ HasRoom old batch.changes) × FitsAnew table batch.changes
      × (2 ^ 64 ≤ epoch_of old + 1)
  -- one of no changes is refused by a store that failed or is not idle alone
  pub none : batch.changes ≡ [] → (fault ≡ store_fault.Failed) ⊎ (fault ≡ store_fault.NotIdle)
  pub few : (fault ≡ store_fault.Failed) ⊎ (fault ≡ store_fault.NotIdle) ⊎ (fault ≡ store_fault.BadBatch) ⊎ (fault ≡ store_fault.Worn)
      ⊎ (fault ≡ store_fault.NoMemory)
