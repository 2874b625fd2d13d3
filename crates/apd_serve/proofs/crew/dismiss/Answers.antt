use Rattle.std.proofs.Common.{◌≡◌, ◌∷◌, [], List, length, refl, ap, sym, ◌∙◌, arith}
use Rattle.std.specs.Vec.Iter.{into_iter_items}
use Rattle.std.proofs.lemmas.List.Sums.{sum_by-cons}
use Rattle.apd_serve.specs.Entries.{entries_of, entries_of_all}
use Rattle.apd_serve.proofs.crew.dismiss.Goals as goal

nothing_left : {X : Type 0} (l : List X) → length l ≡ 0 → l ≡ []
nothing_left [] h = refl
nothing_left (x ∷ xs) h = absurd (omega arith)

pub loop-worker-preserved : goal.loop-worker-preserved
loop-worker-preserved g c =
    let at = c.loop-worker in
    let steps : into_iter_items at.worker-iterator ≡ c.in-Some.worker ∷ into_iter_items c.next.new.self = c.in-Some.ensures.steps.0 in
    let sums = ap entries_of_all steps ∙ sum_by-cons entries_of c.in-Some.worker (into_iter_items c.next.new.self) in
    let short = ap length steps in
    let gone = c.in-Some.ensures.steps.1 in
    let kept = c.in_ok-keep.ensures in
    let left = c.leave.ensures in (
      (let before = at.invariant.0 in omega arith),
      (let before = at.invariant.1 in omega arith),
    )

pub returns : goal.returns
returns g c =
    let at = c.loop-worker in
    let empty : into_iter_items at.worker-iterator ≡ [] = nothing_left _ (sym at.invariant.1 ∙ c.in-None.ensures.steps.0) in
    let sums = ap entries_of_all empty in
    let all = ap entries_of_all c.into_iter-worker-iterator.ensures.into_iter_gives.0 in
    let before = at.invariant.0 in
    omega arith
