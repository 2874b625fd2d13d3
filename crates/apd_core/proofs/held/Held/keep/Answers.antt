use Rattle.std.proofs.Common.{◌≡◌, ℕ, ◌+◌, ◌<◌, List, IsSome, length, map, refl, sym, ap, subst, ◌∙◌, arith}
use Rattle.std.specs.FinMap as maps
use Rattle.apd_core.proofs.Words.{AllByRecursion, HeldOuts, IsInOrder, MayFollow, Out, Queue, Recipient, before, queues_with_outs}
use Rattle.apd_core.proofs.Queues.{whole, on_ok, on_err, before_each}
use Rattle.apd_core.proofs.HeldLemmas.{held_same, same_held, held_below, held_with_outs, left_back, may_follow, follow_order}
use Rattle.apd_core.proofs.held.Held.keep.Goals as goal

pub cut-requires : goal.cut-requires
cut-requires c =
    let inside = c.self.inside in let n = c.args.number in let qs = inside.queues.items in let now = c.add-added.new.queues in
    let h : HeldOuts = record { queues = qs; left = inside.remaining; given = inside.given } in
    let later : (k : ℕ) → IsSome (maps.get inside.remaining k) → k < n = λ k is. c.requires.later k (subst (λ (x : HeldOuts). IsSome (maps.get x.left k)) c.self.view_is is) in
    let follow = c.add-added.ensures.order (subst (λ (x : List Queue). AllByRecursion (MayFollow n) x) (sym c.deref_mut.ensures.value) (may_follow n qs c.self.invariant.in_order (held_below h n c.self.invariant later))) in
    let size : length now ≡ inside.queues.len = omega (arith, c.add-added.auto.queues, ap length c.deref_mut.ensures.value, inside.queues.ok.0) in
    subst (λ (x : List Queue). AllByRecursion IsInOrder x) (sym (c.deref_mut-then-is_err.ensures.value ∙ whole inside.queues.len now qs size)) (follow_order n now follow)

pub invariant_of-self-else-is_err : goal.invariant_of-self-else-is_err
invariant_of-self-else-is_err c =
    let inside = c.self.inside in let n = c.args.number in let qs = inside.queues.items in let now = c.add-added.new.queues in let confs = c.args.confs.now in
    let h : HeldOuts = record { queues = qs; left = inside.remaining; given = inside.given } in
    let later : (k : ℕ) → IsSome (maps.get inside.remaining k) → k < n = λ k is. c.requires.later k (subst (λ (x : HeldOuts). IsSome (maps.get x.left k)) c.self.view_is is) in
    let many : length qs ≡ length confs + 1 = ap (λ (x : HeldOuts). length x.queues) c.self.view_is ∙ c.requires.queues in
    let size : length now ≡ inside.queues.len = omega (arith, c.add-added.auto.queues, ap length c.deref_mut.ensures.value, inside.queues.ok.0) in
    let added = on_ok c.add-added.result c.is_err.result _ c.is_err.ensures.value c.if-is_err.false c.add-added.ensures.ok in
    held_same _ _ _ _ inside.given inside.given
    (whole inside.queues.len now qs size ∙ added ∙ ap (λ (l : List (Recipient × Out)). queues_with_outs confs n l c.deref_mut.result.now) c.into_vec.ensures ∙ ap (queues_with_outs confs n c.args.outs) c.deref_mut.ensures.value)
    (c.in_ok-insert.ensures.ok ∙ ap (maps.insert inside.remaining n) c.len.ensures) refl
    (held_with_outs confs n c.args.outs h c.self.invariant c.requires.there many later)

pub invariant_of-self-then-is_err : goal.invariant_of-self-then-is_err
invariant_of-self-then-is_err c =
    let inside = c.self.inside in let n = c.args.number in let qs = inside.queues.items in let now = c.add-added.new.queues in let last = c.cut.new.queues in
    let h : HeldOuts = record { queues = qs; left = inside.remaining; given = inside.given } in
    let later : (k : ℕ) → IsSome (maps.get inside.remaining k) → k < n = λ k is. c.requires.later k (subst (λ (x : HeldOuts). IsSome (maps.get x.left k)) c.self.view_is is) in
    let size : length now ≡ inside.queues.len = omega (arith, c.add-added.auto.queues, ap length c.deref_mut.ensures.value, inside.queues.ok.0) in
    let kept = on_err c.add-added.result c.is_err.result _ c.is_err.ensures.value c.if-is_err.true c.add-added.ensures.err in
    let back : last ≡ qs = c.cut.ensures ∙ ap (map (before n)) (c.deref_mut-then-is_err.ensures.value ∙ whole inside.queues.len now qs size) ∙ kept ∙ ap (map (before n)) c.deref_mut.ensures.value ∙ before_each n qs (held_below h n c.self.invariant later) in
    held_same _ _ _ _ inside.given inside.given (whole inside.queues.len last _ (ap length back ∙ omega (arith, inside.queues.ok.0)) ∙ back)
    (c.remove.ensures ∙ ap (λ m. maps.remove m n) c.in_ok-insert.ensures.ok ∙ left_back n c.len.result h later) refl c.self.invariant

pub returns-then-is_err-clause-err : goal.returns-then-is_err-clause-err
returns-then-is_err-clause-err c =
    let inside = c.self.inside in let n = c.args.number in let qs = inside.queues.items in let now = c.add-added.new.queues in let last = c.cut.new.queues in
    let h : HeldOuts = record { queues = qs; left = inside.remaining; given = inside.given } in
    let later : (k : ℕ) → IsSome (maps.get inside.remaining k) → k < n = λ k is. c.requires.later k (subst (λ (x : HeldOuts). IsSome (maps.get x.left k)) c.self.view_is is) in
    let size : length now ≡ inside.queues.len = omega (arith, c.add-added.auto.queues, ap length c.deref_mut.ensures.value, inside.queues.ok.0) in
    let kept = on_err c.add-added.result c.is_err.result _ c.is_err.ensures.value c.if-is_err.true c.add-added.ensures.err in
    let back : last ≡ qs = c.cut.ensures ∙ ap (map (before n)) (c.deref_mut-then-is_err.ensures.value ∙ whole inside.queues.len now qs size) ∙ kept ∙ ap (map (before n)) c.deref_mut.ensures.value ∙ before_each n qs (held_below h n c.self.invariant later) in
    same_held _ _ _ _ inside.given inside.given (whole inside.queues.len last _ (ap length back ∙ omega (arith, inside.queues.ok.0)) ∙ back)
    (c.remove.ensures ∙ ap (λ m. maps.remove m n) c.in_ok-insert.ensures.ok ∙ left_back n c.len.result h later) refl ∙ c.self.view_is
