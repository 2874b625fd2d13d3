use Rattle.apd_mlme.proofs.LetGoLemmas.{verdict_lets_go}
use Rattle.apd_mlme.proofs.laws.only_who_has_ceased_is_let_go.Goals as goal

pub returns : goal.returns
returns c = λ s confs h b sound there. verdict_lets_go s confs sound b there h
