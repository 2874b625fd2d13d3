-- How the steps of the committing worker end (own).
use Rattle.std.specs.Prelude.{List, ◌∷◌, None, Ok}
use Rattle.apd_steps.specs.Run.{EndsRefused, Fail, Step, Take}
use Rattle.apd_desk.specs.declared.ending.Ending.{Ending}
use Rattle.apd_desk.specs.declared.ending.Ending.TheVariants.{Stopped, Refused}

-- of steps, the last of which stands first: the last one found nothing to load
abbrev pub EndsIdle : List Step → Type 0
EndsIdle (Take given (Ok None) ∷ before) = Unit {0}
EndsIdle steps = ⊥

-- the core was told to fail by the last one, right behind one that was refused
abbrev pub EndsFailed : List Step → Type 0
EndsFailed (Fail ∷ before) = EndsRefused before
EndsFailed steps = ⊥

abbrev pub EndsAs : Ending → List Step → Type 0
EndsAs Stopped steps = EndsIdle steps
EndsAs Refused steps = EndsFailed steps
