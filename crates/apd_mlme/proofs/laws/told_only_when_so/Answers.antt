use Rattle.apd_mlme.proofs.AuthenticationLemmas.{auth_told}
use Rattle.apd_mlme.proofs.laws.told_only_when_so.Goals as goal

pub returns : goal.returns
returns c = λ s confs conf b request is. rw is (auth_told s conf b request)
