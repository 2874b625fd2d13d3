use Rattle.std.proofs.Common.{ap}
use Rattle.apd_core.specs.Core.{front_of, held_for}
use Rattle.apd_core.proofs.laws.taking_gives_nothing.Goals as goal

pub returns-clause-front : goal.returns-clause-front
returns-clause-front c = λ batch old new taken. ap front_of taken.only

pub returns-clause-held : goal.returns-clause-held
returns-clause-held c = λ batch old new r taken. ap (held_for r) taken.only
