use Rattle.apd_mlme.proofs.ResponseLemmas.{probed}
use Rattle.apd_mlme.proofs.laws.a_probe_is_answered_where_it_asks.Goals as goal

pub returns : goal.returns
returns c = λ s confs conf b request is bytes. rw is (probed s conf b request bytes)
