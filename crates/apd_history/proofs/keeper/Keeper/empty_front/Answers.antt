use Rattle.std.proofs.Common.{◌∙◌, sym, arith}
use Rattle.apd_history.proofs.Moves.{starts}
use Rattle.apd_history.proofs.keeper.Keeper.empty_front.Goals as goal

pub split_seat-seen-requires : goal.split_seat-seen-requires
split_seat-seen-requires g c =
    let i = c.self.invariant in
    let p = c.self.inside.pages in
    (i.0 ∙ sym p.named, omega (arith, p.word), starts _ _)
