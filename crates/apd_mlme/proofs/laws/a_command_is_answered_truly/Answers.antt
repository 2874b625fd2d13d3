use Rattle.apd_mlme.proofs.CommandAnswerLemmas.{verdict_answered}
use Rattle.apd_mlme.proofs.laws.a_command_is_answered_truly.Goals as goal

pub returns : goal.returns
returns c = verdict_answered
