-- The batches that a committer holds (own).
use Rattle.std.specs.Prelude.{◌≡◌, ◌++◌, List, [], ◌∷◌, Option, Some, None, Ok}
use Rattle.apd_disk.specs.Disk.{DiskModel}
use Rattle.apd_journal.specs.declared.batch.Batch.{Batch}
use Rattle.apd_store.specs.Outside.{held_batch}
use Rattle.apd_store.specs.declared.store.Receipt.{Receipt}
use Rattle.apd_flusher.specs.Outside.{flusher_batch, flusher_of, phase_of, waiting_batch, waiting_receipt}
use Rattle.apd_flusher.specs.declared.committer.Committer.{Committer}
use Rattle.apd_flusher.specs.declared.phase.Phase.{Phase}
use Rattle.apd_flusher.specs.declared.phase.Phase.TheVariants.{Idle, Busy, Done, Failed}
use Rattle.apd_steps.specs.Calls.{of_some_core}
use Rattle.apd_steps.specs.Run.{AreSteps, FailsBehindRefusals, Publish, Step, Take}

abbrev pub in_receipt : Option Receipt → List Batch
in_receipt None = []
in_receipt (Some receipt) = held_batch receipt ∷ []

abbrev pub in_flusher : Phase → Batch → List Batch
in_flusher Idle batch = []
in_flusher Busy batch = batch ∷ []
in_flusher Done batch = batch ∷ []
in_flusher Failed batch = batch ∷ []

abbrev pub in_waiting : Option Batch → List Batch
in_waiting None = []
in_waiting (Some batch) = batch ∷ []

-- the oldest first: that of the receipt that waits, the flusher's, and the one that waits for the flusher
abbrev pub held_batches : {D : Type 0} → Committer D → List Batch
held_batches c = in_receipt (waiting_receipt c)
    ++ (in_flusher (phase_of (flusher_of c)) (flusher_batch (flusher_of c)) ++ in_waiting (waiting_batch c))

-- what a step took from the core
abbrev pub taken_batch : Step → List Batch
taken_batch (Take given told) = in_waiting given
taken_batch step = []

-- what it published
abbrev pub published_batch : Step → List Batch
published_batch (Publish (Some receipt) (Some (Ok _))) = held_batch receipt ∷ []
published_batch step = []

-- of steps, the last of which stands first
abbrev pub taken_batches : List Step → List Batch
taken_batches [] = []
taken_batches (step ∷ before) = taken_batches before ++ taken_batch step

abbrev pub published_batches : List Step → List Batch
published_batches [] = []
published_batches (step ∷ before) = published_batches before ++ published_batch step

-- Steps lead from one to the other, and nothing else happened; for each call of the core that a step made, there was a
-- core that went so.
pub record IsLed {D : Type 0} (disk : DiskModel D) (old new : Committer D) : Type 0 where
  pub steps : List Step
  pub are : AreSteps disk (of_some_core {A = Unit {0}}) steps tt tt old new
  -- and the core was told to fail behind a refusal alone, which was none for want of memory
  pub fails : FailsBehindRefusals steps
  -- no batch is lost, and no receipt: what was held and what was taken since is, in order, what was published and
  -- what is held
  pub held : held_batches old ++ taken_batches steps ≡ published_batches steps ++ held_batches new
