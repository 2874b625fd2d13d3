use Rattle.apd_core.proofs.Keeping.{front_runs}
use Rattle.apd_core.proofs.laws.entries_are_verdicts.Goals as goal

pub returns : goal.returns
returns c = λ s core. front_runs s core.unsettled
