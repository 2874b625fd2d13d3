use Rattle.apd_serve.proofs.Giving.{tended_on}
use Rattle.apd_serve.proofs.handing_out.take_next.Goals as goal

pub loop-preserved : goal.loop-preserved
loop-preserved g c = tended_on g.R.Radio.model g.R.Radio.frames _ _ _ _ _ _ c.loop.invariant c.tend.ensures.tends

pub returns-in-Nothing : goal.returns-in-Nothing
returns-in-Nothing g c = tended_on g.R.Radio.model g.R.Radio.frames _ _ _ _ _ _ c.loop.invariant c.tend.ensures.tends

pub returns-in-Made : goal.returns-in-Made
returns-in-Made g c = tended_on g.R.Radio.model g.R.Radio.frames _ _ _ _ _ _ c.loop.invariant c.tend.ensures.tends
