use Rattle.std.proofs.Common.{⊎_elim, sym, ◌∙◌}
use Rattle.apd_desk.proofs.TendLemmas.{gone_on, made_not_short, nothing_not_short, then_on}
use Rattle.apd_desk.proofs.tending.tend.Goals as goal

pub returns-in-Nothing-clause-tends : goal.returns-in-Nothing-clause-tends
returns-in-Nothing-clause-tends g c =
    then_on g.R.Radio.model g.R.Radio.frames c.try_own.result _ _ _ _ _ _ c.try_own.ensures.goes_on
    (λ short. ⊎_elim (λ is. nothing_not_short (sym is ∙ short)) (λ is. made_not_short (sym is ∙ short)) c.in-Nothing.is)
    c.apply_first.ensures.tends_on

pub returns-in-Short-clause-tends : goal.returns-in-Short-clause-tends
returns-in-Short-clause-tends g c = gone_on g.R.Radio.model g.R.Radio.frames c.try_own.result _ _ _ _ c.try_own.ensures.goes_on
