use Rattle.apd_desk.specs.Asking.{by_seat}
use Rattle.apd_desk.proofs.TickLemmas.{by_that_seat, ticked_as, ticked_later}
use Rattle.apd_desk.proofs.ticking.tick_worker.Goals as goal

pub returns : goal.returns
returns g c =
    let asked = ticked_as (λ call old new. by_seat call old.seat new.seat) by_seat (λ it. it.seat) (λ call core after is. is) _ _ c.tick_by_steps.ensures in
    let has = by_that_seat c.args.seat _ _ c.into_seat.result c.new-core.ensures c.into_seat.ensures asked in
    record { ticked = has; later = ticked_later _ _ has }
