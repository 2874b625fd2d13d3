use Rattle.apd_mlme.proofs.StartLemmas.{configure_started}
use Rattle.apd_mlme.proofs.laws.lists_come_with_the_first_start.Goals as goal

pub returns : goal.returns
returns c = λ s confs conf b accept deny is sound. rw is (configure_started s conf b accept deny sound)
