-- What is seen of a flusher and of a committer from outside.
use Rattle.std.specs.Prelude.{ℕ, Option}
use Rattle.apd_base.specs.State.{State}
use Rattle.apd_journal.specs.declared.batch.Batch.{Batch}
use Rattle.apd_store.specs.Outside.{store_device, phase_of as store_phase, calls_left as store_calls, store_batch, epoch_of as store_epoch}
use Rattle.apd_store.specs.declared.store.Receipt.{Receipt}
use Rattle.apd_store.specs.declared.store.Store.{Store}
use Rattle.apd_flusher.specs.Phases.{phase_from}
use Rattle.apd_flusher.specs.declared.committer.Committer.{Committer}
use Rattle.apd_flusher.specs.declared.flusher.Flusher.{Flusher}
use Rattle.apd_flusher.specs.declared.phase.Phase.{Phase}

abbrev pub store_of : {D : Type 0} → Flusher D → Store D
store_of flusher = flusher.store

abbrev pub flusher_device : {D : Type 0} → Flusher D → D
flusher_device flusher = store_device flusher.store

abbrev pub phase_of : {D : Type 0} → Flusher D → Phase
phase_of flusher = phase_from (store_phase flusher.store)

-- how many calls of the batch are left
abbrev pub calls_left : {D : Type 0} → Flusher D → ℕ
calls_left flusher = store_calls flusher.store

-- the epoch of the store's current half
abbrev pub epoch_of : {D : Type 0} → Flusher D → ℕ
epoch_of flusher = store_epoch flusher.store

-- the batch that is under way
abbrev pub flusher_batch : {D : Type 0} → Flusher D → Batch
flusher_batch flusher = store_batch flusher.store

-- the table of everything whose receipt was given
abbrev pub table_of : {D : Type 0} → Flusher D → State
table_of flusher = flusher.tables.table

-- that table after the batch that is under way
abbrev pub next_of : {D : Type 0} → Flusher D → State
next_of flusher = flusher.tables.staged

-- ---- a committer
abbrev pub flusher_of : {D : Type 0} → Committer D → Flusher D
flusher_of c = c.flusher

-- the batch that the flusher refused
abbrev pub waiting_batch : {D : Type 0} → Committer D → Option Batch
waiting_batch c = c.batch

-- the receipt that the core refused
abbrev pub waiting_receipt : {D : Type 0} → Committer D → Option Receipt
waiting_receipt c = c.receipt
