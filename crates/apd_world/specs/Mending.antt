-- A slot of a world is mended: no step, but a call between lists of steps (own).
use Rattle.std.specs.Prelude.{◌≡◌, ◌⊎◌, ℕ, Bool, false, List, Option}
use Rattle.apd_slot.specs.Mending.{Begins, GoesOn}
use Rattle.apd_slot.specs.declared.mending.Mending.{Mending}
use Rattle.apd_world.specs.Words.{Bssid, DiskModel, RadioModel, Slot, World}
use Rattle.apd_world.specs.Proper.{IsSafe}
use Rattle.apd_world.specs.WorldParts.{durable_of}
use Rattle.apd_world.specs.WorldRun.{HasNoSlot, SlotGoes}

-- The slot of the BSSID went so; or no slot has the BSSID, and nothing was done, by which this holds. Nothing but the
-- slots changes, and a stop leaves what it left before.
pub record IsMendedAt {D R : Type 0} (disk : DiskModel D) (b : Bssid) (So : Slot R → Slot R → Type 0)
    (Idle : Type 0) (old new : World D R) : Type 0 where
  pub mended : SlotGoes b So old new ⊎ (HasNoSlot b old × Idle × (new ≡ old))
  pub only : new ≡ record old { slots = new.slots }
  pub safe : IsSafe disk (durable_of old) (durable_of new)

module _ {D R : Type 0} (disk : DiskModel D) (radio : RadioModel R) (frames : R → Option (List (List ℕ))) (b : Bssid) where
  -- the slot of the BSSID began to be mended; where no slot has it, by what it is to be mended stays
  abbrev pub BeginsAtSlot : Mending R → Mending R → World D R → World D R → Type 0
  BeginsAtSlot mending left old new =
      IsMendedAt disk b (Begins radio frames mending left) (left ≡ mending) old new

  -- it goes on being mended, which tells whether a try was left; where no slot has the BSSID none is told
  abbrev pub GoesOnAtSlot : Bool → Mending R → Mending R → World D R → World D R → Type 0
  GoesOnAtSlot answer mending left old new =
      IsMendedAt disk b (GoesOn radio frames answer mending left) ((answer ≡ false) × (left ≡ mending)) old new
