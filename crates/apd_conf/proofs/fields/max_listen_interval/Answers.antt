use Rattle.apd_conf.proofs.TableLemmas.{rule-max_listen_interval}
use Rattle.apd_conf.proofs.fields.max_listen_interval.Goals as goal

pub number-requires-clause-rule : goal.number-requires-clause-rule
number-requires-clause-rule c = rule-max_listen_interval
