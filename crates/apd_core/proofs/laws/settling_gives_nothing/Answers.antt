use Rattle.apd_core.proofs.CoreLemmas.{publish_front, publish_held}
use Rattle.apd_core.proofs.laws.settling_gives_nothing.Goals as goal

pub returns-clause-front : goal.returns-clause-front
returns-clause-front c = publish_front

pub returns-clause-held : goal.returns-clause-held
returns-clause-held c = publish_held
