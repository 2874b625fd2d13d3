use Rattle.apd_conf.proofs.TableLemmas.{rule-channel}
use Rattle.apd_conf.proofs.fields.channel.Goals as goal

pub number-requires-clause-rule : goal.number-requires-clause-rule
number-requires-clause-rule c = rule-channel
