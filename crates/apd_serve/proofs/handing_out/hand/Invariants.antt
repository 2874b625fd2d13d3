use Rattle.std.proofs.Common.{◌≡◌}
use Rattle.apd_serve.specs.HandedOut.{IsHandedBy}
use Rattle.apd_serve.proofs.handing_out.hand.Given as goal

abbrev pub invariant-loop : goal.invariant-loop
invariant-loop g l = (l.seat.count ≡ l.fn.seat.count) × IsHandedBy g.R.Radio.model g.R.Radio.frames l.fn.seat l.seat l.fn.slot l.slot
