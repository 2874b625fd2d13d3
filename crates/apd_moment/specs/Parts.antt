-- What a durable core does, part by part: steps of a world, and between them it may be told to fail.
use Rattle.std.specs.Prelude.{◌≡◌, true, List, [], ◌∷◌, ◌++◌}
use Rattle.apd_core.specs.Core.{CoreState}
use Rattle.apd_disk.specs.Disk.{DiskModel}
use Rattle.apd_history.specs.Calling.{AreLogged}
use Rattle.apd_history.specs.Chain.{Call as LoggedCall, given_by}
use Rattle.apd_mlme.specs.declared.decision.Out.{Out}
use Rattle.apd_mlme.specs.declared.decision.Recipient.{Recipient}
use Rattle.apd_steps.specs.Run as worker
use Rattle.apd_world.specs.Proper.{IsSafe, IsStepMade}
use Rattle.apd_world.specs.Run.{IsStep}
use Rattle.apd_world.specs.Steps.{handed_outs}
use Rattle.apd_world.specs.WorkerRun.{told_called, told_published, told_taken}
use Rattle.apd_world.specs.declared.durable_core.DurableCore.{DurableCore}
use Rattle.apd_world.specs.declared.step.Step.{Step}
use Rattle.apd_world.specs.declared.step.Step.TheVariants.{Accept, Call, Hand, Publish, Take}
use Rattle.apd_world.specs.declared.step.Told.{Told}

-- a step of a world, by what it told; or the core is told to fail
pub data Part : Type 0 where
  OneStep : Step → Told → Part
  Fail : Part

-- its steps, and what each told
abbrev pub steps_of : List Part → List Step
steps_of [] = []
steps_of (OneStep step told ∷ parts) = step ∷ steps_of parts
steps_of (Fail ∷ parts) = steps_of parts

abbrev pub tolds_of : List Part → List Told
tolds_of [] = []
tolds_of (OneStep step told ∷ parts) = told ∷ tolds_of parts
tolds_of (Fail ∷ parts) = tolds_of parts

-- ---- who made them
-- all but the requests and the hand-outs, which others make
abbrev pub of_committer : List Part → List Part
of_committer [] = []
of_committer (OneStep (Accept i m) told ∷ parts) = of_committer parts
of_committer (OneStep (Hand to) told ∷ parts) = of_committer parts
of_committer (part ∷ parts) = part ∷ of_committer parts

-- a step of the committing worker, as a world's
abbrev pub part_of : worker.Step → Part
part_of (worker.Take given told) = OneStep Take (told_taken told)
part_of (worker.Call told) = OneStep Call (told_called told)
part_of (worker.Publish receipt told) = OneStep Publish (told_published told)
part_of worker.Fail = Fail

-- of its steps, the last of which stands first there, in order
abbrev pub parts_of : List worker.Step → List Part
parts_of [] = []
parts_of (step ∷ before) = parts_of before ++ part_of step ∷ []

-- ---- what they do
-- what a recipient was handed by it
abbrev pub handed_as : Recipient → Part → List Out
handed_as r (OneStep step told) = handed_outs r step told
handed_as r Fail = []

-- What it did to the core is logged: the call stands there, or nothing does, where it left the core as it was. The log
-- says what it handed out.
abbrev pub IsLogged : Part → CoreState → CoreState → List LoggedCall → Type 0
IsLogged part core after logged =
    AreLogged core after logged × ((r : Recipient) → given_by r logged ≡ handed_as r part)

module _ {D : Type 0} (disk : DiskModel D) where
  abbrev pub IsPart : Part → DurableCore D → DurableCore D → Type 0
  IsPart (OneStep step told) old new = IsStep step told old new × IsStepMade disk told old new
  IsPart Fail old new = (new ≡ record old { core = record old.core { failed = true } }) × IsSafe disk old new

  -- one after the other; what they did to the core is logged, in the same order, and nothing else is
  abbrev pub AreParts : List Part → List LoggedCall → DurableCore D → DurableCore D → Type 0
  AreParts [] calls old new = (calls ≡ []) × (new ≡ old)
  AreParts (part ∷ parts) calls old new =
      (mid : DurableCore D) × (logged : List LoggedCall) × (later : List LoggedCall)
      × IsPart part old mid × IsLogged part old.core mid.core logged × (calls ≡ logged ++ later)
      × AreParts parts later mid new
