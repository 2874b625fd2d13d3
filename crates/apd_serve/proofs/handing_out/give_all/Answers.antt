use Rattle.apd_serve.proofs.Giving.{run_handed, run_on, run_tended}
use Rattle.apd_serve.proofs.handing_out.give_all.Goals as goal

pub returns-then-not-empty-clause-run : goal.returns-then-not-empty-clause-run
returns-then-not-empty-clause-run g c = run_tended g.R.Radio.model g.R.Radio.frames _ _ _ _ _ c.empty.ensures.tends

pub returns-then-not-hand-clause-run : goal.returns-then-not-hand-clause-run
returns-then-not-hand-clause-run g c =
    run_handed g.R.Radio.model g.R.Radio.frames _ _ _ _ _ _ _ c.empty.ensures.tends c.hand.ensures.hands

pub returns-clause-run : goal.returns-clause-run
returns-clause-run g c =
    run_on g.R.Radio.model g.R.Radio.frames _ _ _ _ _ _ _ _
    (run_handed g.R.Radio.model g.R.Radio.frames _ _ _ _ _ _ _ c.empty.ensures.tends c.hand.ensures.hands) c.empty-2.ensures.tends
