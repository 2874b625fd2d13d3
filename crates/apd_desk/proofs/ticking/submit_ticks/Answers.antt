use Rattle.std.proofs.Common.{refl}
use Rattle.apd_desk.proofs.TickLemmas.{ends_with, one_more}
use Rattle.apd_desk.proofs.ticking.submit_ticks.Goals as goal

pub returns-then-not-tick : goal.returns-then-not-tick
returns-then-not-tick g c =
    let told = c.tick.ensures in
    ends_with g.A.Asks.made c.args.moment c.loop.counter _ _ _ told.0 c.loop-test.true c.loop.invariant told.1

pub returns-then-look : goal.returns-then-look
returns-then-look g c =
    let told = c.tick.ensures in
    ends_with g.A.Asks.made c.args.moment c.loop.counter _ _ _ told.0 c.loop-test.true c.loop.invariant told.1

pub loop-preserved : goal.loop-preserved
loop-preserved g c =
    let told = c.if-not-tick.ensures in
    one_more g.A.Asks.made c.args.moment c.loop.counter _ _ _ told.0 c.loop.invariant told.1 (told.2 refl)
