-- What is wanted once all that waits is applied.
use Rattle.std.proofs.Common.{◌≡◌, List, [], ◌∷◌, ◌++◌, refl, ap, ◌∙◌}
use Rattle.apd_mlme.specs.declared.decision.Out.{Out}
use Rattle.apd_slot.specs.Wanted.{Stations, wanted_after, wanted_after_all}

wanted_after_all-append : (outs more : List Out) (wanted : Stations)
    → wanted_after_all (outs ++ more) wanted ≡ wanted_after_all more (wanted_after_all outs wanted)
wanted_after_all-append [] more wanted = refl
wanted_after_all-append (out ∷ outs) more wanted = wanted_after_all-append outs more (wanted_after out wanted)

-- outs behind others
pub queued_behind : (queue outs now : List Out) (wanted : Stations) → now ≡ queue ++ outs → wanted_after_all now wanted ≡ wanted_after_all outs (wanted_after_all queue wanted)
queued_behind queue outs now wanted is = ap (λ (all : List Out). wanted_after_all all wanted) is ∙ wanted_after_all-append queue outs wanted
