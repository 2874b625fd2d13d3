use Rattle.apd_steps.specs.Serving.{IsTended}
use Rattle.apd_serve.proofs.handing_out.take_next.Given as goal

abbrev pub invariant-loop : goal.invariant-loop
invariant-loop g l = IsTended g.R.Radio.model g.R.Radio.frames l.fn.slot l.slot l.fn.mending l.mending
