-- How steps end that go on from others.
use Rattle.std.proofs.Common.{List, [], ◌∷◌, ◌++◌, None, Some, Ok, Err}
use Rattle.apd_steps.specs.Run.{Call, Fail, Publish, Step, Take}
use Rattle.apd_desk.specs.Ends.{EndsIdle}

pub idle_so : (more before : List Step) → EndsIdle more → EndsIdle (more ++ before)
idle_so [] before ends = absurd ends
idle_so (Take given (Ok None) ∷ more) before ends = tt
idle_so (Take given (Ok (Some answer)) ∷ more) before ends = absurd ends
idle_so (Take given (Err short) ∷ more) before ends = absurd ends
idle_so (Call told ∷ more) before ends = absurd ends
idle_so (Publish receipt told ∷ more) before ends = absurd ends
idle_so (Fail ∷ more) before ends = absurd ends
