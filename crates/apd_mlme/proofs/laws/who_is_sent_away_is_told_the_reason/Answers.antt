use Rattle.std.proofs.Common.{true, false}
use Rattle.apd_conf.specs.Confs.{conf_at}
use Rattle.apd_mlme.proofs.CommandAnswerLemmas.{kick_tells}
use Rattle.apd_mlme.proofs.laws.who_is_sent_away_is_told_the_reason.Goals as goal

pub returns-clause-deauthentication : goal.returns-clause-deauthentication
returns-clause-deauthentication c = λ s confs b to reason tag there. kick_tells s confs b to reason true tag (conf_at confs b) there

pub returns-clause-disassociation : goal.returns-clause-disassociation
returns-clause-disassociation c = λ s confs b to reason tag there. kick_tells s confs b to reason false tag (conf_at confs b) there
