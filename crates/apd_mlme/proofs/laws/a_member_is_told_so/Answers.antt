use Rattle.apd_mlme.proofs.Words.{Association, Reassociation, without_current_ap}
use Rattle.apd_mlme.proofs.AssociationResponseLemmas.{association_told}
use Rattle.apd_mlme.proofs.laws.a_member_is_told_so.Goals as goal

pub returns-clause-association : goal.returns-clause-association
returns-clause-association c = λ s confs conf b request is sound known. rw is (association_told s confs conf b Association request sound known)

pub returns-clause-reassociation : goal.returns-clause-reassociation
returns-clause-reassociation c = λ s confs conf b request is sound known. rw is (association_told s confs conf b Reassociation (without_current_ap request) sound known)
