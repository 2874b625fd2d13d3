-- What applying the first out that waits at a slot tells (own).
use Rattle.std.specs.Prelude.{◌≡◌, [], Some, Ok}
use Rattle.apd_world.specs.Words.{Applied, NoMemory, Nothing, RadioModel, Slot, Told, wanted_then}
use Rattle.apd_slot.specs.Applying.{AppliesNext, IsShort}
use Rattle.apd_slot.specs.Slots.{queue_of}

-- the first out was applied, and is gone; memory ran out at it; or none waits
abbrev pub AppliesFirst : {R : Type 0} → RadioModel R → Told → Slot R → Slot R → Type 0
AppliesFirst radio (Applied out answer) old new = AppliesNext radio (Some (Ok (out, answer))) old new
AppliesFirst radio NoMemory old new = IsShort radio old new
AppliesFirst radio Nothing old new = (queue_of old ≡ []) × (new ≡ old)
AppliesFirst radio told old new = ⊥

-- and what is wanted once all that waits is applied stays
pub record IsApplied {R : Type 0} (radio : RadioModel R) (told : Told) (old new : Slot R) : Type 0 where
  pub first : AppliesFirst radio told old new
  pub wanted_then : wanted_then new ≡ wanted_then old
