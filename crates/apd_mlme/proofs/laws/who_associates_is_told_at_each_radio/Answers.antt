use Rattle.apd_mlme.proofs.Words.{Association, Reassociation, without_current_ap}
use Rattle.apd_mlme.proofs.AssociationResponseLemmas.{association_joined}
use Rattle.apd_mlme.proofs.laws.who_associates_is_told_at_each_radio.Goals as goal

pub returns-clause-association : goal.returns-clause-association
returns-clause-association c = λ s confs conf b request is sound known good. rw is (association_joined s confs conf b Association request sound known good)

pub returns-clause-reassociation : goal.returns-clause-reassociation
returns-clause-reassociation c = λ s confs conf b request is sound known good. rw is (association_joined s confs conf b Reassociation (without_current_ap request) sound known good)
