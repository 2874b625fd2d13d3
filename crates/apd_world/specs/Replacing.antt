-- Another radio in the place of a slot's: no step, but a call between lists of steps (own).
use Rattle.std.specs.Prelude.{◌≡◌, ℕ, List, Option, Result, Ok, Err, OnOk, IfOk, IfErr}
use Rattle.apd_world.specs.Words.{Bssid, DiskModel, IsGivenRadio, RadioModel, Slot, SlotFault, World, WorldFault, radio_of, wanted_then}
use Rattle.apd_world.specs.Proper.{IsSafe}
use Rattle.apd_world.specs.WorldParts.{durable_of}
use Rattle.apd_world.specs.WorldRun.{HasNoSlot, SlotGoes}
use Rattle.apd_world.specs.declared.fault.WorldFault.TheVariants as world_fault

-- A slot was given another radio in place of its own, and answered so. What is wanted once all that waits is applied
-- stays, and each radio receives the frames that it would have.
pub record IsReplacedAt {R : Type 0} (radio : RadioModel R) (frames : R → Option (List (List ℕ))) (other : R)
    (answer : Result R (R × SlotFault)) (old new : Slot R) : Type 0 where
  pub given : IsGivenRadio radio other answer old new
  pub own : IfOk answer (λ own. frames own ≡ frames (radio_of old))
  pub placed : OnOk answer (frames (radio_of new) ≡ frames other)
  pub back : IfErr answer (λ failed. frames failed.0 ≡ frames other)
  pub wanted_then : wanted_then new ≡ wanted_then old

module _ {D R : Type 0} (disk : DiskModel D) (radio : RadioModel R) (frames : R → Option (List (List ℕ))) (b : Bssid)
    (other : R) where
  -- the slot of the BSSID refused the radio, which is told with the BSSID; or no slot has it, and nothing was done
  abbrev pub RefusesRadio : R → WorldFault → World D R → World D R → Type 0
  RefusesRadio back (world_fault.Slot at fault) old new =
      (at ≡ b) × SlotGoes b (IsReplacedAt radio frames other (Err (back, fault))) old new
  RefusesRadio back world_fault.NoSlot old new = HasNoSlot b old × (back ≡ other) × (new ≡ old)
  RefusesRadio back (world_fault.Store fault) old new = ⊥
  RefusesRadio back world_fault.NoMemory old new = ⊥

  abbrev pub Replaces : Result R (R × WorldFault) → World D R → World D R → Type 0
  Replaces (Ok own) old new = SlotGoes b (IsReplacedAt radio frames other (Ok own)) old new
  Replaces (Err failed) old new = RefusesRadio failed.0 failed.1 old new

  -- Another radio was to take the place of that of the BSSID's slot, and this was answered. Nothing but the slots
  -- changes, and a stop leaves what it left before.
  pub record IsReplaced (answer : Result R (R × WorldFault)) (old new : World D R) : Type 0 where
    pub replaces : Replaces answer old new
    pub only : new ≡ record old { slots = new.slots }
    pub safe : IsSafe disk (durable_of old) (durable_of new)
