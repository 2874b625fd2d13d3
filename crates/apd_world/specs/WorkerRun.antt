-- What the committing worker of threads does, as a world does it: lists of steps, and between them its core may be told
-- to fail (own).
use Rattle.std.specs.Prelude.{◌≡◌, List, [], ◌∷◌, Option, Some, None, Result, Ok, Err}
use Rattle.std.specs.declared.alloc.AllocError.{AllocError}
use Rattle.apd_steps.specs.Run as steps
use Rattle.apd_world.specs.Words.{Call, Called, DiskModel, Loaded, NoMemory, Nothing, Publish, PublishFault, Published, RadioModel, Step, StoreFault, Take, Told, World}
use Rattle.apd_world.specs.Failing.{IsFailed}
use Rattle.apd_world.specs.SafelyMade.{AreSafelyMade}

-- ---- what a world's step tells
abbrev pub told_taken : Result (Option (Result (Unit {0}) StoreFault)) AllocError → Told
told_taken (Ok (Some answer)) = Loaded answer
told_taken (Ok None) = Nothing
told_taken (Err short) = NoMemory

abbrev pub told_called : Option (Result (Unit {0}) StoreFault) → Told
told_called (Some answer) = Called answer
told_called None = Nothing

abbrev pub told_published : Option (Result (Unit {0}) PublishFault) → Told
told_published (Some answer) = Published answer
told_published None = Nothing

-- ---- parts
pub data Part : Type 0 where
  Steps : List Step → List Told → Part
  Fail : Part

-- a step of the worker is a list of one
abbrev pub part_of : steps.Step → Part
part_of (steps.Take given told) = Steps (Take ∷ []) (told_taken told ∷ [])
part_of (steps.Call told) = Steps (Call ∷ []) (told_called told ∷ [])
part_of (steps.Publish receipt told) = Steps (Publish ∷ []) (told_published told ∷ [])
part_of steps.Fail = Fail

module _ {D R : Type 0} (disk : DiskModel D) (radio : RadioModel R) where
  abbrev pub IsPart : Part → World D R → World D R → Type 0
  IsPart (Steps steps tolds) old new = AreSafelyMade disk radio steps tolds old new
  IsPart Fail old new = IsFailed disk old new

  -- parts, the last of which stands first
  abbrev pub AreParts : List Part → World D R → World D R → Type 0
  AreParts [] old new = new ≡ old
  AreParts (part ∷ before) old new = (mid : World D R) × AreParts before old mid × IsPart part mid new
