use Rattle.apd_conf.proofs.TableLemmas.{rule-macaddr_acl}
use Rattle.apd_conf.proofs.fields.macaddr_acl.Goals as goal

pub number-requires-clause-rule : goal.number-requires-clause-rule
number-requires-clause-rule c = rule-macaddr_acl
