use Rattle.apd_conf.proofs.TableLemmas.{rule-ignore_broadcast_ssid}
use Rattle.apd_conf.proofs.fields.ignore_broadcast_ssid.Goals as goal

pub number-requires-clause-rule : goal.number-requires-clause-rule
number-requires-clause-rule c = rule-ignore_broadcast_ssid
