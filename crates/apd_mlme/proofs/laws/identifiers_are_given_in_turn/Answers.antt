use Rattle.apd_mlme.proofs.TurnLemmas.{in_turn}
use Rattle.apd_mlme.proofs.laws.identifiers_are_given_in_turn.Goals as goal

pub returns : goal.returns
returns c = λ s confs h b sound. in_turn s b confs h sound
