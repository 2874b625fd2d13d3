-- What the steps of a world do and tell: those of its durable core, and beside it what the slots do (own).
use Rattle.std.specs.Prelude.{◌≡◌, ℕ, List, [], ◌∷◌, length, None, Some, slice_set, if◌then◌else◌}
use Rattle.std.specs.Ordering.{eq_by_cmp}
use Rattle.apd_world.specs.Words.{Applied, Apply, Bssid, Hand, Handed, NoMemory, Nothing, Out, Queued, Radio, RadioModel, SameButRoom, Slot, Step, Told, World, bssid_cmp, bssid_of}
use Rattle.apd_world.specs.Applying.{IsApplied}
use Rattle.apd_world.specs.Queueing.{AreQueued}
use Rattle.apd_world.specs.Run.{IsStep}
use Rattle.apd_world.specs.WorldParts.{durable_of, slots_of, slot_place, slot_at, queue_of}

abbrev pub RestStays : {D R : Type 0} → World D R → World D R → Type 0
RestStays old new = slots_of new ≡ slots_of old

abbrev pub HasNoSlot : {D R : Type 0} → Bssid → World D R → Type 0
HasNoSlot b w = slot_at (slots_of w) b ≡ None

-- the slot of a BSSID goes on so, and all others stay
pub record SlotGoes {D R : Type 0} (b : Bssid) (So : Slot R → Slot R → Type 0) (old new : World D R) : Type 0 where
  pub place : ℕ
  pub slot : Slot R
  pub after : Slot R
  pub at : slot_place (slots_of old) b ≡ Some place
  pub has_slot : slot_at (slots_of old) b ≡ Some slot
  pub slots : slots_of new ≡ slice_set (slots_of old) place after
  pub bssid : bssid_of after ≡ bssid_of slot
  pub goes : So slot after

-- What a step does beside the durable core, by what that told inside: outs for a radio go to its slot, and their count is told; without a
-- slot nothing is done, and where no out waits nothing is applied. All else is told as it was inside.
abbrev pub Joins : {D R : Type 0} → RadioModel R → Step → Told → Told → World D R → World D R → Type 0
Joins radio (Hand (Radio b)) (Handed outs) (Queued count) old new =
    (count ≡ length outs) × SlotGoes b (AreQueued outs) old new
Joins radio (Hand (Radio b)) NoMemory NoMemory old new = SlotGoes b SameButRoom old new
Joins radio (Hand (Radio b)) Nothing Nothing old new = HasNoSlot b old × RestStays old new
Joins radio (Hand (Radio b)) inside told old new = ⊥
Joins radio (Apply b) Nothing Nothing old new = (queue_of old b ≡ []) × RestStays old new
Joins radio (Apply b) Nothing told old new = SlotGoes b (IsApplied radio told) old new
Joins radio (Apply b) inside told old new = ⊥
Joins radio step inside told old new = (told ≡ inside) × RestStays old new

-- one step, and what it tells; inside, the durable core makes one
pub record IsWorldStep {D R : Type 0} (radio : RadioModel R) (step : Step) (told : Told)
    (old new : World D R) : Type 0 where
  pub inside : Told
  pub durable : IsStep step inside (durable_of old) (durable_of new)
  pub joins : Joins radio step inside told old new

-- the out that a step applied at a BSSID's slot
abbrev pub applied_outs : Bssid → Step → Told → List Out
applied_outs b (Apply c) (Applied out answer) = if eq_by_cmp bssid_cmp b c then out ∷ [] else []
applied_outs b step told = []
