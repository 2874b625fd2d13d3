use Rattle.apd_mlme.proofs.TurnLemmas.{all_between}
use Rattle.apd_mlme.proofs.laws.all_others_come_between.Goals as goal

pub returns : goal.returns
returns c = λ s confs first between second b i j sound fit given again low high ne. all_between confs b i (record { number = j; low = low; high = high }) ne s first between second sound fit given again
