use Rattle.apd_mlme.proofs.ApartLemmas.{verdict_apart}
use Rattle.apd_mlme.proofs.NeededLemmas.{verdict_needed}
use Rattle.apd_mlme.proofs.laws.no_change_is_idle.Goals as goal

pub returns-clause-needed : goal.returns-clause-needed
returns-clause-needed c = λ s confs h fit sound. verdict_needed s confs sound h fit

pub returns-clause-once : goal.returns-clause-once
returns-clause-once c = λ s confs h fit. verdict_apart s confs h fit
