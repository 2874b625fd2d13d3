-- What ends a start or a flush early: the store, or want of memory (own).
use Rattle.std.specs.Prelude.{◌≡◌, ◌≢◌, ◌⊎◌, List, [], Option, None, Some, Result, Ok, Err, true, false}
use Rattle.std.specs.List.{All}
use Rattle.apd_world.specs.Words.{Called, Commit, DiskModel, DurableCore, HasRisen, Loaded, Published, RadioModel, Step, StoreFault, Told, World, WorldFault}
use Rattle.apd_core.specs.declared.publish_fault.PublishFault.TheVariants as publish_fault
use Rattle.apd_store.specs.declared.fault.StoreFault.TheVariants as store_fault
use Rattle.apd_world.specs.Outside.{device_of}
use Rattle.apd_world.specs.Proper.{IsWhole}
use Rattle.apd_world.specs.Round.{IsRound}
use Rattle.apd_world.specs.SafelyMade.{AreSafelyMade}
use Rattle.apd_world.specs.WorldParts.{durable_of}
use Rattle.apd_world.specs.declared.fault.WorldFault.TheVariants as world_fault
use Rattle.apd_world.specs.declared.step.Commit.TheVariants as commit

-- ---- how far it came
-- the store refused nothing, nor the core a receipt
abbrev pub IsNoRefusal : Told → Type 0
IsNoRefusal (Loaded (Err fault)) = ⊥
IsNoRefusal (Called (Err fault)) = ⊥
IsNoRefusal (Published (Err fault)) = ⊥
IsNoRefusal told = Unit {0}

-- nor anything else, but maybe the core a receipt for want of memory
abbrev pub IsNoOtherRefusal : Told → Type 0
IsNoOtherRefusal told = IsNoRefusal told ⊎ (told ≡ Published (Err publish_fault.NoMemory))

module _ {D R : Type 0} (disk : DiskModel D) (radio : RadioModel R) where
  -- Some steps were made.
  pub record HasGoneOn (old new : World D R) : Type 0 where
    pub steps : List Step
    pub tolds : List Told
    pub made : AreSafelyMade disk radio steps tolds old new

  -- Some steps were made, and none told a refusal.
  pub record HasMetNoRefusal (old new : World D R) : Type 0 where
    pub gone_on : HasGoneOn old new
    pub none : All IsNoRefusal gone_on.tolds

-- ---- what ends it
-- the core has failed, or an entry is not settled
abbrev pub IsUnfinished : {D : Type 0} → DurableCore D → Type 0
IsUnfinished w = (w.core.failed ≡ true) ⊎ (w.core.unsettled ≢ [])

-- What the last round came to, by which it ends with this fault: the store refused with it; or, which is told as
-- `Failed`, there was nothing to do though something is unfinished, or the receipt was another batch's.
abbrev pub Ends : {D : Type 0} → Commit → StoreFault → DurableCore D → Type 0
Ends (commit.Refused told) fault w = fault ≡ told
Ends commit.Nothing fault w = (fault ≡ store_fault.Failed) × IsUnfinished w
Ends commit.Foreign fault w = fault ≡ store_fault.Failed
Ends answer fault w = ⊥

-- what a last round ends with; a settled batch ends nothing
abbrev pub IsEnd : {D : Type 0} → Commit → DurableCore D → Option (Result (Unit {0}) WorldFault) → Type 0
IsEnd answer w None = answer ≡ commit.Settled
IsEnd answer w (Some (Ok _)) = (answer ≡ commit.Nothing) × (w.core.failed ≡ false) × (w.core.unsettled ≡ [])
IsEnd answer w (Some (Err (world_fault.Store fault))) = Ends answer fault w
IsEnd answer w (Some (Err (world_fault.Slot b fault))) = ⊥
IsEnd answer w (Some (Err world_fault.NoSlot)) = ⊥
IsEnd answer w (Some (Err world_fault.NoMemory)) = answer ≡ commit.NoMemory

module _ {D R : Type 0} (disk : DiskModel D) (radio : RadioModel R) where
  -- Some steps were made, and then a last round, which ends with this fault; the device is told as failed only where it
  -- did.
  pub record IsEndedByStore (fault : StoreFault) (old new : World D R) : Type 0 where
    pub last : World D R
    pub before : HasGoneOn disk radio old last
    pub answer : Commit
    pub round_is : IsRound disk radio answer last new
    pub ends : Ends answer fault (durable_of new)
    pub risen : fault ≡ store_fault.Device
        → HasRisen (disk.failed (device_of (durable_of old))) (disk.failed (device_of (durable_of new)))

  -- A last round came to want of memory. In one from a whole world no refusal is told, but maybe of the receipt, for want
  -- of memory.
  pub record IsShortRound (last new : World D R) : Type 0 where
    pub round_is : IsRound disk radio commit.NoMemory last new
    pub none : IsWhole disk (durable_of last) → All IsNoOtherRefusal round_is.tolds

  -- Memory ran out: some steps were made, and none told a refusal; then maybe a last round, which came to that.
  pub record HasRunShort (old new : World D R) : Type 0 where
    pub last : World D R
    pub before : HasMetNoRefusal disk radio old last
    pub way : (new ≡ last) ⊎ IsShortRound last new

  -- A start or a flush ends early by a round that the store ends, or where memory is refused. No slot ends it.
  abbrev pub HasEnded : WorldFault → World D R → World D R → Type 0
  HasEnded (world_fault.Store fault) old new = IsEndedByStore fault old new
  HasEnded (world_fault.Slot b fault) old new = ⊥
  HasEnded world_fault.NoSlot old new = ⊥
  HasEnded world_fault.NoMemory old new = HasRunShort old new

-- where the store is told as failed, the core has failed
abbrev pub HasFailedCore : {D R : Type 0} → WorldFault → World D R → Type 0
HasFailedCore (world_fault.Store store_fault.Failed) w = (durable_of w).core.failed ≡ true
HasFailedCore fault w = Unit {0}
