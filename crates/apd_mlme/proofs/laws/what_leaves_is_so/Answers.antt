use Rattle.apd_mlme.proofs.TrueOutsLemmas.{verdict_there, verdict_is_true, verdict_is_true_for_all}
use Rattle.apd_mlme.proofs.laws.what_leaves_is_so.Goals as goal

pub returns-clause-so : goal.returns-clause-so
returns-clause-so c = λ s confs h sound. verdict_is_true s confs sound h

pub returns-clause-everyone : goal.returns-clause-everyone
returns-clause-everyone c = λ s confs h sound. verdict_is_true_for_all s confs sound h

pub returns-clause-there : goal.returns-clause-there
returns-clause-there c = verdict_there
