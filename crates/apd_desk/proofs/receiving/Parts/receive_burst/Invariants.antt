use Rattle.apd_steps.specs.Serving.{IsRadioRun}
use Rattle.apd_desk.proofs.receiving.Parts.receive_burst.Given as goal

abbrev pub invariant-loop : goal.invariant-loop
invariant-loop g l =
    IsRadioRun g.R.Radio.model g.R.Radio.frames g.A.Asks.made l.fn.core l.core l.fn.self.slot l.self.slot l.fn.self.mending l.self.mending
