use Rattle.apd_conf.proofs.TableLemmas.{rule-auth_algs}
use Rattle.apd_conf.proofs.fields.auth_algs.Goals as goal

pub number-requires-clause-rule : goal.number-requires-clause-rule
number-requires-clause-rule c = rule-auth_algs
