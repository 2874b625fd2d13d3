-- A round of steps, by which a batch is committed, and what it comes to (own).
use Rattle.std.specs.Option.{unwrap_or}
use Rattle.std.specs.Prelude.{◌≡◌, ◌⊎◌, ◌+◌, ◌≤◌, ◌<◌, ◌^◌, ℕ, List, [], ◌∷◌, ◌++◌, replicate, Option, Some, None, Ok, Err, true, false, length}
use Rattle.apd_world.specs.Words.{Batch, Call, Commit, CoreState, DiskModel, DurableCore, HasRisen, Publish, RadioModel, Step, Take, Told, World, phase_of}
use Rattle.apd_store.specs.declared.fault.StoreFault.TheVariants as store_fault
use Rattle.apd_core.specs.declared.publish_fault.PublishFault.TheVariants as publish_fault
use Rattle.apd_flusher.specs.Flushing.{HasRoom}
use Rattle.apd_flusher.specs.Outside.{epoch_of}
use Rattle.apd_flusher.specs.declared.phase.Phase.TheVariants as phase
use Rattle.apd_world.specs.Outside.{device_of, flusher_of}
use Rattle.apd_world.specs.SafelyMade.{AreSafelyMade}
use Rattle.apd_world.specs.Telling.{IsNext}
use Rattle.apd_world.specs.WorldParts.{durable_of}
use Rattle.apd_world.specs.declared.step.Commit.TheVariants.{Settled, Nothing, Refused, Foreign, NoMemory}
use Rattle.apd_world.specs.declared.step.Told.TheVariants as told

-- a batch is taken, so many calls are made, and a receipt is published
abbrev pub round : ℕ → List Step
round calls = Take ∷ replicate calls Call ++ Publish ∷ []

-- what a step says of its round: that it was refused, or that a batch is settled
abbrev pub commit_of : Told → Option Commit
commit_of (told.Loaded (Err fault)) = Some (Refused fault)
commit_of (told.Called (Err fault)) = Some (Refused fault)
commit_of (told.Published (Ok _)) = Some Settled
commit_of (told.Published (Err publish_fault.Foreign)) = Some Foreign
commit_of (told.Published (Err publish_fault.NoMemory)) = Some NoMemory
commit_of told.NoMemory = Some NoMemory
commit_of told = None

-- a round answers what is said first, or else that there was nothing
abbrev pub answer_of : List Told → Commit
answer_of [] = Nothing
answer_of (told ∷ tolds) = unwrap_or (commit_of told) (answer_of tolds)

-- there is room for the batch that is taken next
abbrev pub HasRoomForNext : {D : Type 0} → DurableCore D → Type 0
HasRoomForNext w = (batch : Batch) (core : CoreState) → IsNext batch w core → HasRoom (flusher_of w) batch.changes

-- it has no changes
abbrev pub HasNoChangesNext : {D : Type 0} → DurableCore D → Type 0
HasNoChangesNext w = (batch : Batch) (core : CoreState) → IsNext batch w core → batch.changes ≡ []

-- there is room for it, or the other half can begin anew: there is an epoch left
abbrev pub LastsForNext : {D : Type 0} → DurableCore D → Type 0
LastsForNext w = (batch : Batch) (core : CoreState) → IsNext batch w core
    → HasRoom (flusher_of w) batch.changes ⊎ (epoch_of (flusher_of w) + 1 < 2 ^ 64)

-- One round of steps, with ten calls at most: four, where the batch is new and there is room for it; none, where it is
-- new and has no changes, and the device is then as it was. It tells that the device failed only where that is so.
pub record IsRound {D R : Type 0} (disk : DiskModel D) (radio : RadioModel R) (answer : Commit)
    (old new : World D R) : Type 0 where
  pub calls : ℕ
  pub few : calls ≤ 10
  pub four : phase_of (flusher_of (durable_of old)) ≡ phase.Idle → HasRoomForNext (durable_of old) → calls ≤ 4
  pub none : phase_of (flusher_of (durable_of old)) ≡ phase.Idle → HasNoChangesNext (durable_of old)
      → (calls ≡ 0) × (device_of (durable_of new) ≡ device_of (durable_of old))
  pub tolds : List Told
  pub made : AreSafelyMade disk radio (round calls) tolds old new
  pub answer_is : answer ≡ answer_of tolds
  pub risen : answer ≡ Refused store_fault.Device
      → HasRisen (disk.failed (device_of (durable_of old))) (disk.failed (device_of (durable_of new)))

-- memory was refused
abbrev pub LacksMemory : Commit → Type 0
LacksMemory (Refused store_fault.NoMemory) = Unit {0}
LacksMemory NoMemory = Unit {0}
LacksMemory answer = ⊥

-- What a round of a whole durable core comes to, by its answer.
abbrev pub IsRoundAnswer : {D : Type 0} → DiskModel D → Commit → DurableCore D → DurableCore D → Type 0
-- one entry or more is settled, and none is in flight
IsRoundAnswer disk Settled old new = (old.core.number < new.core.number) × (new.core.flight ≡ 0)
-- the core has failed, or every entry was settled
IsRoundAnswer disk Nothing old new = (new ≡ old) × ((old.core.failed ≡ true) ⊎ (old.core.unsettled ≡ []))
-- the device failed in this round
IsRoundAnswer disk (Refused store_fault.Device) old new = HasRisen (disk.failed (device_of old)) (disk.failed (device_of new))
-- or before
IsRoundAnswer disk (Refused store_fault.Failed) old new = old.core.failed ≡ true
-- there is no room for the next batch, and no half can begin anew
IsRoundAnswer disk (Refused store_fault.Worn) old new = ¬ LastsForNext old
IsRoundAnswer disk (Refused store_fault.NoMemory) old new = Unit {0}
IsRoundAnswer disk NoMemory old new = Unit {0}
-- nothing else is answered
IsRoundAnswer disk answer old new = ⊥

-- One in which the device didn't fail, no memory was refused and there is room for the batch, or the other half can begin
-- anew, settles one entry or more, where the core has not failed and any is unsettled.
abbrev pub Commits : {D : Type 0} → DiskModel D → Commit → DurableCore D → DurableCore D → Type 0
Commits disk answer old new =
    old.core.failed ≡ false → disk.failed (device_of new) ≡ disk.failed (device_of old)
    → disk.failed (device_of old) + 1 < 2 ^ 64 → ¬ LacksMemory answer → LastsForNext old → 1 ≤ length old.core.unsettled
    → (answer ≡ Settled) × (old.core.number < new.core.number)
