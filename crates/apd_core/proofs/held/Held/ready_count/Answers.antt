use Rattle.std.proofs.Common.{◌<◌, [], length, sym, ap, subst, ◌∙◌, arith}
use Rattle.apd_core.proofs.Words.{HeldOuts, IsInOrder, get_or_default, queue_at, queue_of, up_to}
use Rattle.apd_core.proofs.Places.{queue_place_below}
use Rattle.apd_core.proofs.Queues.{all_get, front_is}
use Rattle.apd_core.proofs.held.Held.ready_count.Goals as goal

pub index-requires : goal.index-requires
index-requires c =
    omega (arith, queue_place_below c.args.confs.now c.args.to c.in-Some.place (sym c.in-Some.ensures.place), c.requires, ap (λ (h : HeldOuts). length h.queues) c.self.view_is, c.self.inside.queues.ok.0)

pub returns-in-Some : goal.returns-in-Some
returns-in-Some c =
    let qs = c.self.inside.queues.items in
    let place = c.in-Some.place in
    let lt : place < length qs = omega (arith, queue_place_below c.args.confs.now c.args.to place (sym c.in-Some.ensures.place), c.requires, ap (λ (h : HeldOuts). length h.queues) c.self.view_is) in
    let here = c.index.ensures ∙ get_or_default qs place _ [] lt in
    c.count_up_to.ensures
    ∙ ap length (front_is c.args.number c.index.result.now (subst IsInOrder (sym here) (all_get IsInOrder qs place [] c.self.invariant.in_order tt))
    ∙ ap (up_to c.args.number) (here ∙ ap (queue_at qs) c.in-Some.ensures.place ∙ ap (λ (h : HeldOuts). queue_of c.args.confs.now h c.args.to) c.self.view_is))
