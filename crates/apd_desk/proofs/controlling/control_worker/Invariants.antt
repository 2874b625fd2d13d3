use Rattle.apd_desk.specs.Replying.{HasReplied, IsEither}
use Rattle.apd_desk.specs.SeatProgress.{IsLater}
use Rattle.apd_desk.proofs.controlling.control_worker.Given as goal

abbrev pub invariant-loop : goal.invariant-loop
invariant-loop g l = IsLater l.fn.seat l.seat × HasReplied IsEither (g.P.Port.replied l.fn.port) (g.P.Port.replied l.port)
