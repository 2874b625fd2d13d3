use Rattle.apd_mlme.proofs.TakenInLemmas.{verdict_takes_in}
use Rattle.apd_mlme.proofs.laws.only_who_newly_associates_is_taken_in.Goals as goal

pub returns : goal.returns
returns c = λ s confs h b. verdict_takes_in s confs b h
