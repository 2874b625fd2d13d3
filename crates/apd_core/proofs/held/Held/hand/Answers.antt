use Rattle.std.proofs.Common.{◌≡◌, ◌<◌, ◌≤◌, [], length, map, set, IfOk, OnOk, OnErr, sym, ap, subst, ◌∙◌, arith}
use Rattle.apd_core.proofs.Words.{HeldOuts, IsInOrder, Queue, after_hand, get_or_default, queue_at, queue_of, up_to}
use Rattle.apd_core.proofs.Places.{queue_place_below}
use Rattle.apd_core.proofs.Queues.{all_get}
use Rattle.apd_core.proofs.HeldLemmas.{given_held, after_give}
use Rattle.apd_core.proofs.held.Held.hand.Goals as goal

pub index_mut-requires : goal.index_mut-requires
index_mut-requires c =
    omega (arith, queue_place_below c.args.confs.now c.args.to c.in-Some.place (sym c.in-Some.ensures.place), c.requires, ap (λ (h : HeldOuts). length h.queues) c.self.view_is, c.self.inside.queues.ok.0)

pub give-requires : goal.give-requires
give-requires c =
    let qs = c.self.inside.queues.items in
    let lt : c.in-Some.place < length qs = omega (arith, queue_place_below c.args.confs.now c.args.to c.in-Some.place (sym c.in-Some.ensures.place), c.requires, ap (λ (h : HeldOuts). length h.queues) c.self.view_is) in
    subst IsInOrder (sym (c.index_mut.ensures.value ∙ get_or_default qs c.in-Some.place _ [] lt)) (all_get IsInOrder qs c.in-Some.place [] c.self.invariant.in_order tt)

pub invariant_of-self : goal.invariant_of-self
invariant_of-self c =
    let inside = c.self.inside in let qs = inside.queues.items in
    let lt : c.in-Some.place < length qs = omega (arith, queue_place_below c.args.confs.now c.args.to c.in-Some.place (sym c.in-Some.ensures.place), c.requires, ap (λ (h : HeldOuts). length h.queues) c.self.view_is) in
    after_give c.args.confs.now c.args.number c.args.to (record { queues = qs; left = inside.remaining; given = inside.given }) c.give.result c.in-Some.place c.index_mut.result.now c.give.new.queue c.give.new.remaining c.give.new.given
    c.in-Some.ensures.place (c.index_mut.ensures.value ∙ get_or_default qs c.in-Some.place _ [] lt) c.give.ensures.queue c.give.ensures.remaining c.give.ensures.given c.give.ensures.err c.self.invariant

pub returns-clause-outs : goal.returns-clause-outs
returns-clause-outs c =
    let inside = c.self.inside in let qs = inside.queues.items in
    let lt : c.in-Some.place < length qs = omega (arith, queue_place_below c.args.confs.now c.args.to c.in-Some.place (sym c.in-Some.ensures.place), c.requires, ap (λ (h : HeldOuts). length h.queues) c.self.view_is) in
    subst (λ (q : Queue). IfOk c.give.result (λ outs. outs.items ≡ map (λ x. x.1) (up_to c.args.number q)))
    (c.index_mut.ensures.value ∙ get_or_default qs c.in-Some.place _ [] lt ∙ ap (queue_at qs) c.in-Some.ensures.place ∙ ap (λ (h : HeldOuts). queue_of c.args.confs.now h c.args.to) c.self.view_is)
    c.give.ensures.outs

pub returns-clause-handed : goal.returns-clause-handed
returns-clause-handed c =
    let inside = c.self.inside in let qs = inside.queues.items in
    let lt : c.in-Some.place < length qs = omega (arith, queue_place_below c.args.confs.now c.args.to c.in-Some.place (sym c.in-Some.ensures.place), c.requires, ap (λ (h : HeldOuts). length h.queues) c.self.view_is) in
    subst (λ (h : HeldOuts). OnOk c.give.result (◌≡◌ {A = HeldOuts} (record { queues = set qs c.in-Some.place c.give.new.queue; left = c.give.new.remaining; given = c.give.new.given }) (after_hand c.args.confs.now c.args.number c.args.to h))) c.self.view_is
    (given_held c.args.confs.now c.args.number c.args.to (record { queues = qs; left = inside.remaining; given = inside.given }) c.give.result c.in-Some.place c.index_mut.result.now c.give.new.queue c.give.new.remaining c.give.new.given
    c.in-Some.ensures.place (c.index_mut.ensures.value ∙ get_or_default qs c.in-Some.place _ [] lt) c.give.ensures.queue c.give.ensures.remaining c.give.ensures.given)

pub returns-clause-lacks : goal.returns-clause-lacks
returns-clause-lacks c =
    let inside = c.self.inside in let qs = inside.queues.items in
    let lt : c.in-Some.place < length qs = omega (arith, queue_place_below c.args.confs.now c.args.to c.in-Some.place (sym c.in-Some.ensures.place), c.requires, ap (λ (h : HeldOuts). length h.queues) c.self.view_is) in
    subst (λ (q : Queue). OnErr c.give.result (1 ≤ length (up_to c.args.number q)))
    (c.index_mut.ensures.value ∙ get_or_default qs c.in-Some.place _ [] lt ∙ ap (queue_at qs) c.in-Some.ensures.place ∙ ap (λ (h : HeldOuts). queue_of c.args.confs.now h c.args.to) c.self.view_is)
    c.give.ensures.lacks
