use Rattle.apd_conf.proofs.TableLemmas.{rule-beacon_int}
use Rattle.apd_conf.proofs.fields.beacon_int.Goals as goal

pub number-requires-clause-rule : goal.number-requires-clause-rule
number-requires-clause-rule c = rule-beacon_int
