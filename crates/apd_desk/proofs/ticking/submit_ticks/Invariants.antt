use Rattle.apd_desk.proofs.TickLemmas.{HasGoneOn}
use Rattle.apd_desk.proofs.ticking.submit_ticks.Given as goal

abbrev pub invariant-loop : goal.invariant-loop
invariant-loop g l = HasGoneOn g.A.Asks.made l.fn.moment l.counter l.fn.core l.core
