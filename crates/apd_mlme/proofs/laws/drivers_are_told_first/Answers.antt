use Rattle.apd_mlme.proofs.AssociationEndLemmas.{verdict_ended, verdict_begun}
use Rattle.apd_mlme.proofs.laws.drivers_are_told_first.Goals as goal

pub returns-clause-ended : goal.returns-clause-ended
returns-clause-ended c = λ s confs h b a configured. verdict_ended s confs b configured a h

pub returns-clause-begun : goal.returns-clause-begun
returns-clause-begun c = λ s confs h b a aid. verdict_begun s confs b a aid h
