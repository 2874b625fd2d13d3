use Rattle.apd_desk.proofs.Giving.{mended_served}
use Rattle.apd_desk.proofs.TendLemmas.{begun_first}
use Rattle.apd_desk.proofs.tending.mend_first.Goals as goal

pub returns-then-not-is_up-clause-tends : goal.returns-then-not-is_up-clause-tends
returns-then-not-is_up-clause-tends g c = begun_first g.R.Radio.model g.R.Radio.frames _ _ _ _ c.begin.ensures.begins

pub returns-then-not-is_up-clause-served : goal.returns-then-not-is_up-clause-served
returns-then-not-is_up-clause-served g c = mended_served g.R.Radio.model g.R.Radio.frames _ _ _ c.begin.ensures.mended
