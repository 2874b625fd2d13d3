use Rattle.apd_desk.proofs.TickLemmas.{IsTickedUntil}
use Rattle.apd_desk.proofs.ticking.tick_by_steps.Given as goal

abbrev pub invariant-loop : goal.invariant-loop
invariant-loop g l = IsTickedUntil g.A.Asks.made l.last l.fn.core l.core
