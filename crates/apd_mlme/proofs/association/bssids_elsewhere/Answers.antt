use Rattle.std.proofs.Common.{◌≡◌, ℕ, zero, suc, ◌+◌, ◌<◌, Bool, true, false, cond, List, [], ◌∷◌, ◌++◌, length, Some, take, filter, refl, sym, ap, ◌∙◌, IsSome, arith, append-nil, take_all}
use Rattle.std.specs.FinMap as map
use Rattle.apd_mlme.proofs.Words.{FinMap, Policy, bssid_cmp, filter_more, is_elsewhere, length-map, slice_get}
use Rattle.std.proofs.lemmas.Option.{slice_get_within, get_or_from_slice_get}
use Rattle.apd_mlme.proofs.association.bssids_elsewhere.Goals as goal
use Rattle.apd_mlme.proofs.association.bssids_elsewhere.Goals.{then-is_elsewhere+in_ok-push, else-is_elsewhere}

as_many_keys : (m : FinMap bssid_cmp Policy) → length (map.keys m) ≡ map.len m
as_many_keys m = length-map (map.entries m) (λ row. row.0) ∙ sym (map.len-entries m)

some_within : {X : Type 0} (xs : List X) (i : ℕ) → i < length xs → IsSome (slice_get xs i)
some_within [] i low = absurd (omega arith)
some_within (x ∷ xs) zero low = refl
some_within (x ∷ xs) (suc i) low = some_within xs i (omega arith)

pub unwrap-other-requires : goal.unwrap-other-requires
unwrap-other-requires c =
    let many = as_many_keys c.args.table.now.policies in
    let end = c.bss_count-place-end.ensures in
    let place = c.loop-place-test.true in
    rw c.bss.ensures (some_within (map.keys c.args.table.now.policies) c.loop-place.place (omega arith))

-- one more that is looked at
one_more : {X : Type 0} (p : X → Bool) (xs ys : List X) (i : ℕ) (x : X) → slice_get xs i ≡ Some x → ys ≡ filter p (take i xs) → filter p (take (i + 1) xs) ≡ ys ++ cond (p x) (x ∷ []) []
one_more p xs ys i x at is =
    filter_more p xs i x (slice_get_within xs i x at)
    ∙ (λ j. sym is j ++ cond (p (get_or_from_slice_get xs i x x at j)) (get_or_from_slice_get xs i x x at j ∷ []) [])

taken : {X : Type 0} (t : Bool) (zs ys : List X) (x : X) → zs ≡ ys ++ cond t (x ∷ []) [] → t ≡ true → zs ≡ ys ++ x ∷ []
taken t zs ys x is e = is ∙ ap (λ u. ys ++ cond u (x ∷ []) []) e

left_out : {X : Type 0} (t : Bool) (zs ys : List X) (x : X) → zs ≡ ys ++ cond t (x ∷ []) [] → t ≡ false → zs ≡ ys
left_out t zs ys x is e = is ∙ ap (λ u. ys ++ cond u (x ∷ []) []) e ∙ append-nil ys

pub loop-place-preserved : goal.loop-place-preserved
loop-place-preserved c =
    let p = is_elsewhere c.args.table.now c.args.bssid c.args.sender in
    let seen = filter p (take (c.loop-place.place + 1) (map.keys c.args.table.now.policies)) in
    let more = one_more p (map.keys c.args.table.now.policies) c.loop-place.others c.loop-place.place c.unwrap-other.result (sym c.bss.ensures ∙ c.unwrap-other.ensures) c.loop-place.invariant.others in
    record {
      others = elim c.if-is_elsewhere.branch [
        | then-is_elsewhere+in_ok-push w ↦ w.others-is ∙ w.in_ok-push.ensures.ok ∙ sym (taken (p c.unwrap-other.result) seen c.loop-place.others c.unwrap-other.result more (sym c.is_elsewhere.ensures ∙ w.if-is_elsewhere.true))
        | else-is_elsewhere w ↦ w.others-is ∙ sym (left_out (p c.unwrap-other.result) seen c.loop-place.others c.unwrap-other.result more (sym c.is_elsewhere.ensures ∙ w.if-is_elsewhere.false))
      ];
    }

pub returns : goal.returns
returns c =
    let many = as_many_keys c.args.table.now.policies in
    let end = c.bss_count-place-end.ensures in
    let place = c.loop-place-test.false in
    c.loop-place.invariant.others ∙ ap (filter (is_elsewhere c.args.table.now c.args.bssid c.args.sender)) (take_all c.loop-place.place (map.keys c.args.table.now.policies) (omega arith))
