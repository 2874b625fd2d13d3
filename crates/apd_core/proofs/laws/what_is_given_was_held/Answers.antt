use Rattle.apd_core.proofs.CoreLemmas.{hand_held, hand_others}
use Rattle.apd_core.proofs.laws.what_is_given_was_held.Goals as goal

pub returns-clause-own : goal.returns-clause-own
returns-clause-own c = hand_held

pub returns-clause-others : goal.returns-clause-others
returns-clause-others c = hand_others
