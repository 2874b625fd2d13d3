-- What steps keep and leave, however many were made (own).
use Rattle.std.specs.Prelude.{◌≡◌, ◌≤◌, ℕ, List, [], ◌∷◌, take, drop, Err}
use Rattle.std.specs.List.{Contains}
use Rattle.apd_world.specs.Words.{Called, DiskModel, HasRisen, RadioModel, Step, Told, World}
use Rattle.apd_store.specs.declared.fault.StoreFault.TheVariants as store_fault
use Rattle.apd_world.specs.Following.{AreExact, AreFollowing}
use Rattle.apd_world.specs.History.{History}
use Rattle.apd_world.specs.Outside.{device_of}
use Rattle.apd_world.specs.Proper.{IsProper, IsSafe, IsStepMade, IsWhole}
use Rattle.apd_world.specs.StandsFor.{LeadsSafely, StandsFor}
use Rattle.apd_world.specs.WorldParts.{durable_of, slots_of}
use Rattle.apd_world.specs.WorldRun.{IsWorldStep}

module _ {D R : Type 0} (disk : DiskModel D) (radio : RadioModel R) where
  -- one step after the other, each telling one answer, and a stop before each, and at the end
  abbrev pub AreMadeInTurn : List Step → List Told → World D R → World D R → Type 0
  AreMadeInTurn [] [] old new = (new ≡ old) × IsSafe disk (durable_of old) (durable_of old)
  AreMadeInTurn (step ∷ steps) (told ∷ tolds) old new =
      (mid : World D R) × IsWorldStep radio step told old mid
      × IsStepMade disk told (durable_of old) (durable_of mid) × AreMadeInTurn steps tolds mid new
      × IsSafe disk (durable_of old) (durable_of old)
  AreMadeInTurn steps tolds old new = ⊥

  -- In the midst of these steps, so many of them made, the world stands for a history, and the others lead on from
  -- there: what a stop leaves since then has all that had been said by then.
  pub record LeadsSince (count : ℕ) (steps : List Step) (tolds : List Told) (old new : World D R)
      (h : History) : Type 0 where
    pub mid : World D R
    pub made : AreMadeInTurn (take count steps) (take count tolds) old mid
    pub others : AreMadeInTurn (drop count steps) (drop count tolds) mid new
    pub between : History
    pub later : History
    pub first : LeadsSafely disk (take count steps) (take count tolds) old mid h between
    pub rest : LeadsSafely disk (drop count steps) (drop count tolds) mid new between later

  -- These steps were made, and told so. A whole world stays whole, and a proper one proper. They lead from history to
  -- history, and however many of them had been made, a stop since then leaves all that had been said by then. The
  -- radio of each slot that is up has what is wanted, and the slots follow the table, if they did before. The device's
  -- failures never fall, and rise where a step told one.
  pub record AreSafelyMade (steps : List Step) (tolds : List Told) (old new : World D R) : Type 0 where
    pub in_turn : AreMadeInTurn steps tolds old new
    pub whole : IsWhole disk (durable_of old) → IsWhole disk (durable_of new)
    pub proper : IsProper disk (durable_of old) → IsProper disk (durable_of new)
    pub leads : (h : History) → StandsFor old h → (count : ℕ) → LeadsSince count steps tolds old new h
    pub exact : AreExact radio (slots_of old) → AreExact radio (slots_of new)
    pub following : AreFollowing old → AreFollowing new
    pub count : disk.failed (device_of (durable_of old)) ≤ disk.failed (device_of (durable_of new))
    pub risen : Contains tolds (Called (Err store_fault.Device))
        → HasRisen (disk.failed (device_of (durable_of old))) (disk.failed (device_of (durable_of new)))
