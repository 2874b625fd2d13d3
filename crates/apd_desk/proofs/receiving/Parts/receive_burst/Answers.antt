use Rattle.apd_steps.proofs.ServingLemmas.{serve_on}
use Rattle.apd_desk.proofs.receiving.Parts.receive_burst.Goals as goal

pub loop-preserved : goal.loop-preserved
loop-preserved g c = serve_on g.R.Radio.model g.R.Radio.frames g.A.Asks.made _ _ _ _ _ _ _ _ _ c.loop.invariant c.receive-next.ensures

pub returns-then-ne : goal.returns-then-ne
returns-then-ne g c = serve_on g.R.Radio.model g.R.Radio.frames g.A.Asks.made _ _ _ _ _ _ _ _ _ c.loop.invariant c.receive-next.ensures
