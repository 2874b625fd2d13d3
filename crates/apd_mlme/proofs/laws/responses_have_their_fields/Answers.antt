use Rattle.apd_mlme.proofs.Words.{Association, Reassociation, without_current_ap}
use Rattle.apd_mlme.proofs.ResponseLemmas.{authentication_answered, association_answered}
use Rattle.apd_mlme.proofs.laws.responses_have_their_fields.Goals as goal

pub returns-clause-authentication : goal.returns-clause-authentication
returns-clause-authentication c = λ s confs conf b request is. rw is (authentication_answered s conf b request)

pub returns-clause-association : goal.returns-clause-association
returns-clause-association c = λ s confs conf b request is sound known. rw is (association_answered s confs conf b Association request sound known)

pub returns-clause-reassociation : goal.returns-clause-reassociation
returns-clause-reassociation c = λ s confs conf b request is sound known. rw is (association_answered s confs conf b Reassociation (without_current_ap request) sound known)
