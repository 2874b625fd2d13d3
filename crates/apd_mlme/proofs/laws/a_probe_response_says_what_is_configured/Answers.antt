use Rattle.apd_mlme.proofs.ResponseLemmas.{probe_answered}
use Rattle.apd_mlme.proofs.laws.a_probe_response_says_what_is_configured.Goals as goal

pub returns : goal.returns
returns c = λ s confs conf b request is bytes asks. rw is (probe_answered s conf b request bytes asks)
