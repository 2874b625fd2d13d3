use Rattle.apd_mlme.proofs.VerdictLemmas.{follows_in}
use Rattle.apd_mlme.proofs.laws.drivers_follow.Goals as goal

pub returns : goal.returns
returns c = follows_in
