-- Steps of a core and its committer, one after another (own).
use Rattle.std.specs.Prelude.{◌≡◌, ◌≢◌, Bool, List, [], ◌∷◌, Option, Some, None, Result, Ok, Err}
use Rattle.std.specs.declared.alloc.AllocError.{AllocError}
use Rattle.apd_base.specs.State.{State}
use Rattle.apd_disk.specs.Disk.{DiskModel, LeavesOnly}
use Rattle.apd_journal.specs.declared.batch.Batch.{Batch}
use Rattle.apd_store.specs.Outside.{held_batch}
use Rattle.apd_store.specs.declared.fault.StoreFault.{StoreFault}
use Rattle.apd_store.specs.declared.fault.StoreFault.TheVariants as store_fault
use Rattle.apd_store.specs.declared.store.Receipt.{Receipt}
use Rattle.apd_flusher.specs.Committing.{IsImaged, IsWhole, ShowsEither, has_failed_after, state_after_flight}
use Rattle.apd_flusher.specs.Flushing.{IsGood}
use Rattle.apd_flusher.specs.Handing.{IsTurnMade, Keeps}
use Rattle.apd_flusher.specs.Outside.{flusher_device, flusher_of}
use Rattle.apd_flusher.specs.declared.committer.Committer.{Committer}
use Rattle.apd_core.specs.declared.publish_fault.PublishFault.{PublishFault}
use Rattle.apd_core.specs.declared.publish_fault.PublishFault.TheVariants as publish_fault
use Rattle.apd_steps.specs.Calls.{FailTells, Made}
use Rattle.apd_steps.specs.Committing.{Calls, Publishes, Takes}

-- a step, by the batch that the core gave, or the receipt that it was handed, and by what was told; or the core was told
-- to fail
pub data Step : Type 0 where
  Take : Option Batch → Result (Option (Result (Unit {0}) StoreFault)) AllocError → Step
  Call : Option (Result (Unit {0}) StoreFault) → Step
  Publish : Option Receipt → Option (Result (Unit {0}) PublishFault) → Step
  Fail : Step

-- the store refused, or the core a receipt, and not for want of memory
abbrev pub IsRefusal : Step → Type 0
IsRefusal (Take given (Ok (Some (Err fault)))) = fault ≢ store_fault.NoMemory
IsRefusal (Call (Some (Err fault))) = Unit {0}
IsRefusal (Publish receipt (Some (Err fault))) = fault ≢ publish_fault.NoMemory
IsRefusal step = ⊥

-- of steps, the last of which stands first: the last one was a refusal
abbrev pub EndsRefused : List Step → Type 0
EndsRefused [] = ⊥
EndsRefused (step ∷ before) = IsRefusal step

-- and the core was told to fail right behind one alone
abbrev pub FailsBehindRefusals : List Step → Type 0
FailsBehindRefusals [] = Unit {0}
FailsBehindRefusals (Fail ∷ before) = EndsRefused before × FailsBehindRefusals before
FailsBehindRefusals (step ∷ before) = FailsBehindRefusals before

-- ---- what it does
abbrev pub Does : {A D : Type 0} → Made A → Step → A → A → Committer D → Committer D → Type 0
Does made (Take given told) core after old new = Takes made given told core after old new
Does made (Call told) core after old new = Calls made told core after old new
Does made (Publish receipt told) core after old new = Publishes made receipt told core after old new
Does made Fail core after old new = made FailTells core after × (new ≡ old)

-- ---- what it keeps, of whatever settled state and batch in flight the core has
-- the settled state and the batch in flight once a receipt was published, or refused
abbrev pub settled_by : Result (Unit {0}) PublishFault → State → Option Batch → State
settled_by (Ok _) s flight = state_after_flight s flight
settled_by (Err fault) s flight = s

abbrev pub flight_by : Result (Unit {0}) PublishFault → Option Batch → Option Batch
flight_by (Ok _) flight = None
flight_by (Err fault) flight = flight

module _ {D : Type 0} (disk : DiskModel D) where
  -- a whole committer stays whole, with the batch that it was handed
  pub record KeepsAtTake (given : Option Batch) (old new : Committer D) : Type 0 where
    pub waits : (s : State) (flight : Option Batch) (failed : Bool) → given ≡ None
        → IsWhole disk old s flight failed → IsWhole disk new s flight failed
    pub handed_in : (s : State) (batch : Batch) (failed : Bool) → given ≡ Some batch → IsGood batch.changes s
        → IsWhole disk old s None failed → IsWhole disk new s (Some batch) failed

  -- beside a core that fails with the device
  pub record KeepsAtCall (answer : Result (Unit {0}) StoreFault) (old new : Committer D) : Type 0 where
    pub turn : IsTurnMade disk answer old new
    pub whole : (s : State) (flight : Option Batch) (failed : Bool) → IsWhole disk old s flight failed
        → IsWhole disk new s flight (has_failed_after answer failed)

  -- beside a core that settled the batch of the receipt, which is that in flight, or refused it
  abbrev pub KeepsAtPublish : Receipt → Result (Unit {0}) PublishFault → Committer D → Committer D → Type 0
  KeepsAtPublish receipt answer old new =
      (s : State) (flight : Option Batch) (failed : Bool) → IsWhole disk old s flight failed
      → (flight ≡ Some (held_batch receipt))
      × IsWhole disk new (settled_by answer s flight) (flight_by answer flight) failed

  -- what does nothing keeps all
  abbrev pub KeepsWhole : Step → Committer D → Committer D → Type 0
  KeepsWhole (Take given told) old new = KeepsAtTake given old new
  KeepsWhole (Call (Some answer)) old new = KeepsAtCall answer old new
  KeepsWhole (Publish (Some receipt) (Some answer)) old new = KeepsAtPublish receipt answer old new
  KeepsWhole step old new = Unit {0}

  -- a stop since then leaves an image of the settled state, or of that after the batch in flight
  abbrev pub StopsSafely : Committer D → D → Type 0
  StopsSafely old device =
      (s : State) (flight : Option Batch) (failed : Bool) → IsWhole disk old s flight failed → IsImaged disk old
      → LeavesOnly disk (flusher_device (flusher_of old)) device (ShowsEither s flight)

  -- ---- both
  pub record IsStep {A : Type 0} (made : Made A) (step : Step) (core after : A) (old new : Committer D) : Type 0 where
    pub does : Does made step core after old new
    pub whole : KeepsWhole step old new
    pub keeps : Keeps disk old new
    -- a stop before it, and since it began
    pub before : StopsSafely old (flusher_device (flusher_of old))
    pub since : StopsSafely old (flusher_device (flusher_of new))

  -- steps, the last of which stands first
  abbrev pub AreSteps : {A : Type 0} → Made A → List Step → A → A → Committer D → Committer D → Type 0
  AreSteps made [] core after old new = (after ≡ core) × (new ≡ old)
  AreSteps {A} made (step ∷ steps) core after old new =
      (mid : A) × (between : Committer D) × AreSteps made steps core mid old between
      × IsStep made step mid after between new

  -- some steps lead there, and nothing else happened; and the core is told to fail behind a refusal alone
  pub record IsRun {A : Type 0} (made : Made A) (core after : A) (old new : Committer D) : Type 0 where
    pub steps : List Step
    pub are : AreSteps made steps core after old new
    pub fails : FailsBehindRefusals steps
