-- A batch that a flusher takes, or refuses.
use Rattle.std.specs.Prelude.{◌≡◌, ◌≢◌, ◌≤◌, ◌<◌, ◌+◌, ◌^◌, ◌⊎◌, ◌↔◌, []}
use Rattle.apd_record.specs.Meaning.{meaning_of}
use Rattle.apd_journal.specs.declared.batch.Batch.{Batch}
use Rattle.apd_store.specs.declared.fault.StoreFault.{StoreFault}
use Rattle.apd_store.specs.declared.fault.StoreFault.TheVariants as store_fault
use Rattle.apd_flusher.specs.Flushing.{HasRoom, IsGood}
use Rattle.apd_flusher.specs.Outside.{flusher_batch, flusher_device, calls_left, epoch_of, next_of, phase_of, store_of, table_of}
use Rattle.apd_flusher.specs.declared.flusher.Flusher.{Flusher}
use Rattle.apd_flusher.specs.declared.phase.Phase.TheVariants.{Busy, Done, Failed, Idle}

-- the flusher took the batch, without a device call
pub record IsLoaded {D : Type 0} (batch : Batch) (old new : Flusher D) : Type 0 where
  pub was_idle : phase_of old ≡ Idle
  -- a batch of no changes has no call: its receipt is there
  pub done : batch.changes ≡ [] → phase_of new ≡ Done
  pub busy : batch.changes ≢ [] → phase_of new ≡ Busy
  pub some_calls : batch.changes ≢ [] → (4 ≤ calls_left new) × (calls_left new ≤ 10)
  pub four_calls : batch.changes ≢ [] → HasRoom old batch.changes → calls_left new ≡ 4
  pub batch_is : flusher_batch new ≡ batch
  pub device : flusher_device new ≡ flusher_device old
  pub good : IsGood batch.changes (table_of old)
  pub lasts : ¬ HasRoom old batch.changes → epoch_of old + 1 < 2 ^ 64
  pub table : table_of new ≡ table_of old
  pub next : next_of new ≡ meaning_of batch.changes (table_of old)

-- it refused the batch, for this reason
pub record IsNotLoaded {D : Type 0} (fault : StoreFault) (batch : Batch) (old new : Flusher D) : Type 0 where
  pub stays : store_of new ≡ store_of old
  pub table : table_of new ≡ table_of old
  pub failed : (fault ≡ store_fault.Failed) ↔ (phase_of old ≡ Failed)
  pub not_idle : (fault ≡ store_fault.NotIdle) ↔ ((phase_of old ≡ Busy) ⊎ (phase_of old ≡ Done))
  pub bad : fault ≡ store_fault.BadBatch → ¬ IsGood batch.changes (table_of old)
  pub worn : fault ≡ store_fault.Worn → IsGood batch.changes (table_of old) × (¬ HasRoom old batch.changes)
      × (2 ^ 64 ≤ epoch_of old + 1)
  pub few : (fault ≡ store_fault.Failed) ⊎ (fault ≡ store_fault.NotIdle) ⊎ (fault ≡ store_fault.BadBatch)
      ⊎ (fault ≡ store_fault.Worn) ⊎ (fault ≡ store_fault.NoMemory)
