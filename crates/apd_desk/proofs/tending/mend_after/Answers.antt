use Rattle.apd_desk.proofs.Giving.{mended_served}
use Rattle.apd_desk.proofs.tending.mend_after.Goals as goal

pub returns-then-eq-clause-served : goal.returns-then-eq-clause-served
returns-then-eq-clause-served g c = mended_served g.R.Radio.model g.R.Radio.frames _ _ _ c.begin.ensures.mended
