use Rattle.apd_conf.proofs.TableLemmas.{rule-max_num_sta}
use Rattle.apd_conf.proofs.fields.max_num_sta.Goals as goal

pub number-requires-clause-rule : goal.number-requires-clause-rule
number-requires-clause-rule c = rule-max_num_sta
