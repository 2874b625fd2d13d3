use Rattle.apd_steps.proofs.ServingLemmas.{serve_on, tended_beside}
use Rattle.apd_desk.proofs.receiving.serve_by_steps.Goals as goal

pub loop-init : goal.loop-init
loop-init g c = tended_beside g.R.Radio.model g.R.Radio.frames g.A.Asks.made _ _ _ _ _ c.mend_first.ensures.tends

pub loop-preserved-then-rest : goal.loop-preserved-then-rest
loop-preserved-then-rest g c =
    serve_on g.R.Radio.model g.R.Radio.frames g.A.Asks.made _ _ _ _ _ _ _ _ _ c.loop.invariant c.turn-progress.ensures

pub loop-preserved : goal.loop-preserved
loop-preserved g c =
    serve_on g.R.Radio.model g.R.Radio.frames g.A.Asks.made _ _ _ _ _ _ _ _ _ c.loop.invariant c.turn-progress.ensures
