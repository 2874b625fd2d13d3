use Rattle.apd_desk.specs.Replying.{HasReplied, IsAtOnce}
use Rattle.apd_desk.specs.SeatProgress.{IsLater}
use Rattle.apd_desk.proofs.controlling.serve_commands.Given as goal

abbrev pub invariant-loop : goal.invariant-loop
invariant-loop g l = IsLater l.fn.seat l.seat × HasReplied IsAtOnce (g.P.Port.replied l.fn.port) (g.P.Port.replied l.port)
