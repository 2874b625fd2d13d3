use Rattle.apd_serve.proofs.Giving.{tended_on}
use Rattle.apd_serve.proofs.handing_out.empty.Goals as goal

pub loop-preserved : goal.loop-preserved
loop-preserved g c = tended_on g.R.Radio.model g.R.Radio.frames _ _ _ _ _ _ c.loop.invariant c.take_next.ensures

pub returns-then-not-take_next-clause-tends : goal.returns-then-not-take_next-clause-tends
returns-then-not-take_next-clause-tends g c = tended_on g.R.Radio.model g.R.Radio.frames _ _ _ _ _ _ c.loop.invariant c.take_next.ensures
