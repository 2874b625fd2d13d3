use Rattle.apd_conf.proofs.TableLemmas.{rule-ap_max_inactivity}
use Rattle.apd_conf.proofs.fields.ap_max_inactivity.Goals as goal

pub number-requires-clause-rule : goal.number-requires-clause-rule
number-requires-clause-rule c = rule-ap_max_inactivity
