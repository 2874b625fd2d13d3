use Rattle.std.proofs.Common.{ℕ, ◌≤◌, subst}
use Rattle.apd_desk.specs.declared.ticking.TheConstants.{SECOND}
use Rattle.apd_desk.proofs.TickLemmas.{turn_more}
use Rattle.apd_desk.proofs.ticking.tick_by_steps.Goals as goal

pub loop-preserved : goal.loop-preserved
loop-preserved g c =
    turn_more g.A.Asks.made c.loop.last c.now-now.result _ _ _
    (subst (λ (z : ℕ). SECOND ≤ z) c.abs_diff-past.ensures c.if-past-lt-SECOND.false) c.loop.invariant c.turn.ensures
