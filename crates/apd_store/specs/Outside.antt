-- What is seen of a store and of a receipt from outside.
use Rattle.std.specs.Prelude.{◌≡◌, ◌≤◌, ◌<◌, ◌+◌, ℕ, Bool, length}
use Rattle.apd_base.specs.declared.limits.TheConstants.{DEVICE_LENGTH}
use Rattle.apd_disk.specs.Disk.{DiskModel}
use Rattle.apd_journal.specs.declared.batch.Batch.{Batch}
use Rattle.apd_journal.specs.declared.writer.TheConstants.{HALF_LENGTH}
use Rattle.apd_store.specs.Phases.{calls_from}
use Rattle.apd_store.specs.declared.phase.Phase.{Phase}
use Rattle.apd_store.specs.declared.store.Receipt.{Receipt}
use Rattle.apd_store.specs.declared.store.Store.{Store}

abbrev pub store_device : {D : Type 0} → Store D → D
store_device store = store.device

-- what the store does next
abbrev pub phase_of : {D : Type 0} → Store D → Phase
phase_of store = store.phase

-- how many calls of the batch are left
abbrev pub calls_left : {D : Type 0} → Store D → ℕ
calls_left store = calls_from store.phase

-- the epoch of the current half, and whether the other half's gate is open
abbrev pub epoch_of : {D : Type 0} → Store D → ℕ
epoch_of store = store.epoch

abbrev pub is_other_open : {D : Type 0} → Store D → Bool
is_other_open store = store.other_open

-- the batch that is under way
abbrev pub store_batch : {D : Type 0} → Store D → Batch
store_batch store = store.batch

-- the batch that a receipt is for
abbrev pub held_batch : Receipt → Batch
held_batch receipt = receipt.batch

-- The device has the store's length, and what is to be written to either half lies inside it, whatever the device
-- keeps of it.
pub record IsInside {D : Type 0} (disk : DiskModel D) (store : Store D) : Type 0 where
  pub gate : store.gate < HALF_LENGTH
  pub group : store.plan.place + length store.plan.bytes ≤ HALF_LENGTH
  pub half : store.fresh.place + length store.fresh.bytes ≤ HALF_LENGTH
  pub device : disk.size store.device ≡ DEVICE_LENGTH
