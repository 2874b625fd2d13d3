use Rattle.apd_steps.specs.Serving.{IsRadioRun}
use Rattle.apd_desk.proofs.receiving.serve_by_steps.Given as goal

abbrev pub invariant-loop : goal.invariant-loop
invariant-loop g l =
    IsRadioRun g.R.Radio.model g.R.Radio.frames g.A.Asks.made l.fn.core l.core l.fn.parts.slot l.parts.slot l.fn.parts.mending l.parts.mending
