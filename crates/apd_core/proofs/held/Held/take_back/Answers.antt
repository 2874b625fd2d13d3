use Rattle.std.proofs.Common.{◌≡◌, IsSome, length, map, refl, ap, subst, ◌∙◌, arith}
use Rattle.std.specs.FinMap as maps
use Rattle.apd_core.proofs.Words.{HeldOuts, before, length-map}
use Rattle.apd_core.proofs.Queues.{whole}
use Rattle.apd_core.proofs.HeldLemmas.{held_same, held_without}
use Rattle.apd_core.proofs.held.Held.take_back.Goals as goal

pub invariant_of-self : goal.invariant_of-self
invariant_of-self c =
    let inside = c.self.inside in let n = c.args.number in
    let cut : c.cut.new.queues ≡ map (before n) inside.queues.items = c.cut.ensures ∙ ap (map (before n)) c.deref_mut.ensures.value in
    let size : length c.cut.new.queues ≡ inside.queues.len = omega (arith, ap length cut, length-map inside.queues.items (before n), inside.queues.ok.0) in
    held_same _ _ _ _ inside.given inside.given (whole inside.queues.len c.cut.new.queues inside.queues.items size ∙ cut) c.remove.ensures refl
    (held_without n (record { queues = inside.queues.items; left = inside.remaining; given = inside.given }) c.self.invariant
    (λ k is. c.requires k (subst (λ (h : HeldOuts). IsSome (maps.get h.left k)) c.self.view_is is)))
