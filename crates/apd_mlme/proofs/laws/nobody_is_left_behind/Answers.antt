use Rattle.std.proofs.Common.{inl, inr}
use Rattle.apd_mlme.specs.rules.{verdict}
use Rattle.apd_mlme.proofs.AssociationEndLemmas.{verdict_ended, is_told}
use Rattle.apd_mlme.proofs.laws.nobody_is_left_behind.Goals as goal

pub returns : goal.returns
returns c = λ s confs h b a configured before after. elim (verdict_ended s confs b configured a h before after) [ inl left ↦ inl left | inr first ↦ inr (is_told (verdict s confs h).outs b a first) ]
