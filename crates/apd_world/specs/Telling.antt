-- What each step does, and what it tells.
use Rattle.std.specs.Prelude.{◌≡◌, ◌⊎◌, ◌≤◌, List, length, Option, Some, None, Result, IsTrue}
use Rattle.apd_world.specs.Words.{Accept, Accepted, Answer, Answered, Apply, AreFit, Ask, Batch, Call, Called, CoreState, DurableCore, Hand, Handed, Input, IsTaken, Loaded, Moment, NoMemory, Nothing, Out, Publish, PublishFault, Published, Query, Radio, Receipt, Reception, Recipient, Step, StoreFault, Take, Told, answer_at, after_request, cannot_take, front_of, after_handing_out, happening_of, ready_for, waiting_batch}
use Rattle.apd_core.specs.Core.{answer_to_query, IsDecided}
use Rattle.apd_core.specs.declared.ticket.Accepted.{Accepted as CoreAccepted}
use Rattle.apd_core.specs.declared.ticket.Accepted.TheVariants as core_accepted
use Rattle.apd_flusher.specs.Handing as committer
use Rattle.apd_steps.specs.Calls.{exactly}
use Rattle.apd_steps.specs.Committing as steps
use Rattle.apd_world.specs.Steps.{reception_happenings}
use Rattle.apd_world.specs.declared.step.Reception.TheVariants as reception

-- an answer with the number of its entry in place of the ticket
abbrev pub reception_of : CoreAccepted → Reception
reception_of core_accepted.Stopped = reception.Stopped
reception_of core_accepted.Busy = reception.Busy
reception_of (core_accepted.Quiet reason) = reception.Quiet reason
reception_of (core_accepted.Entry ticket) = reception.Entry ticket.number

-- ---- accepting
pub record IsAccepted {D : Type 0} (i : Input) (m : Moment) (answer : Reception)
    (old new : DurableCore D) : Type 0 where
  pub answer_is : answer ≡ reception_of (answer_at old.core m i)
  pub fit : AreFit (front_of old.core) old.core.confs
      (reception_happenings answer (happening_of old.core.confs old.core.heard m i))
  pub only : new ≡ record old { core = after_request old.core m i }

-- ---- taking
-- the batch that waits, or else one that the core gives
abbrev pub IsNext : {D : Type 0} → Batch → DurableCore D → CoreState → Type 0
IsNext batch old core =
    ((waiting_batch old.committer ≡ Some batch) × (core ≡ old.core))
    ⊎ ((waiting_batch old.committer ≡ None) × (¬ IsTrue (cannot_take old.core)) × IsTaken batch old.core core)

-- the committer loaded it, or it was refused and waits
abbrev pub IsTakenUp : {D : Type 0} → Result (Unit {0}) StoreFault → DurableCore D → DurableCore D → Type 0
IsTakenUp answer old new = (given : Option Batch)
    × steps.IsTakenUp exactly given answer old.core new.core old.committer new.committer

-- nothing waits, and the core has a batch to give
abbrev pub CanTake : {D : Type 0} → DurableCore D → Type 0
CanTake w = (waiting_batch w.committer ≡ None) × ¬ IsTrue (cannot_take w.core)

-- nothing waits, and the core gives no batch
abbrev pub HasNoBatch : {D : Type 0} → DurableCore D → Type 0
HasNoBatch w = (waiting_batch w.committer ≡ None) × IsTrue (cannot_take w.core)

-- ---- calling
abbrev pub IsCalled : {D : Type 0} → Result (Unit {0}) StoreFault → DurableCore D → DurableCore D → Type 0
IsCalled answer old new = steps.IsCalled exactly answer old.core new.core old.committer new.committer

abbrev pub HasNoCall : {D : Type 0} → DurableCore D → Type 0
HasNoCall w = steps.HasNoCall w.committer

-- ---- publishing
-- the next receipt was published, or was refused and waits
abbrev pub IsPublished : {D : Type 0} → Result (Unit {0}) PublishFault → DurableCore D → DurableCore D → Type 0
IsPublished answer old new = (receipt : Receipt)
    × steps.IsPublished exactly receipt answer old.core new.core old.committer new.committer

abbrev pub HasNoReceipt : {D : Type 0} → DurableCore D → Type 0
HasNoReceipt w = committer.HasNoReceipt w.committer

-- ---- handing out, and reading
pub record IsHanded {D : Type 0} (r : Recipient) (outs : List Out) (old new : DurableCore D) : Type 0 where
  pub outs_are : outs ≡ ready_for r old.core
  pub only : new ≡ record old { core = after_handing_out r old.core }

pub record IsAsked {D : Type 0} (q : Query) (answer : Answer) (old new : DurableCore D) : Type 0 where
  pub answer_is : answer ≡ answer_to_query old.core q
  pub only : new ≡ old

-- some out is ready for a recipient
abbrev pub HasReady : Recipient → CoreState → Type 0
HasReady r s = 1 ≤ length (ready_for r s)

-- ---- any step
abbrev pub Tells : {D : Type 0} → Step → Told → DurableCore D → DurableCore D → Type 0
Tells (Accept i m) (Accepted answer) old new = IsAccepted i m answer old new
Tells Take (Loaded result) old new = IsTakenUp result old new
Tells Take Nothing old new = HasNoBatch old × (new ≡ old)
Tells Call (Called result) old new = IsCalled result old new
Tells Call Nothing old new = HasNoCall old × (new ≡ old)
Tells Publish (Published result) old new = IsPublished result old new
Tells Publish Nothing old new = HasNoReceipt old × (new ≡ old)
Tells (Hand r) (Handed outs) old new = IsHanded r outs old new
-- a world asks nothing for a radio that has no slot; a durable core by itself never tells so
Tells (Hand (Radio b)) Nothing old new = new ≡ old
Tells (Ask q) (Answered answer) old new = IsAsked q answer old new
Tells (Apply b) Nothing old new = new ≡ old
Tells (Accept i m) NoMemory old new = IsDecided old.core m i × (new ≡ old)
Tells Take NoMemory old new = CanTake old × (new ≡ old)
Tells (Hand r) NoMemory old new = HasReady r old.core × (new ≡ old)
Tells (Ask q) NoMemory old new = new ≡ old
-- no other step tells so
Tells step told old new = ⊥
