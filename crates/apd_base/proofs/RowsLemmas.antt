-- What an edit at a key's place makes of entries in order.
use Rattle.std.proofs.Common.{◌≡◌, ℕ, suc, ◌+◌, true, false, cond, not, List, [], ◌∷◌, lit≤, Some, None, Result, Ok, Err, length, refl, sym, ap, subst, ◌∙◌, arith}
use lib.Dec.{T}
use Rattle.std.specs.Ordering.{eq_by_cmp, is_eq, is_lt}
use Rattle.std.specs.Cmp.{IsTotalOrder}
use Rattle.std.specs.declared.cmp.Ordering.{Ordering}
use Rattle.std.specs.declared.cmp.Ordering.TheVariants.{Less, Equal, Greater}
use Rattle.std.specs.FinMap.{find, put, is_sorted, IsAntisymmetric}
use Rattle.std.specs.FinMap.Entries.{where_key, below_all}
use Rattle.std.specs.List.Sorted.{IsSearchInRange}
use Rattle.apd_base.specs.Rows.{place, offset, by_order, value_at, put_at, remove_at}
use Rattle.apd_base.proofs.Cases.{differ, first_holds, second_holds, both_hold, is_less, none_is_some}

bound-offset : (r : Result ℕ ℕ) (n : ℕ) → IsSearchInRange r n → IsSearchInRange (offset 1 r) (suc n)
bound-offset (Ok i) n h = omega arith
bound-offset (Err i) n h = omega arith

pub one_more : (i : ℕ) → 1 + i ≡ suc i
one_more i = omega arith

module _ {K X : Type 0} where
  value_at-offset : (e : K × X) (es : List (K × X)) (r : Result ℕ ℕ) → value_at (e ∷ es) (offset 1 r) ≡ value_at es r
  value_at-offset e es (Ok i) = rw (one_more i) refl
  value_at-offset e es (Err i) = refl

  put_at-offset : (e : K × X) (es : List (K × X)) (k : K) (v : X) (r : Result ℕ ℕ) → put_at (e ∷ es) k v (offset 1 r) ≡ e ∷ put_at es k v r
  put_at-offset e es k v (Ok i) = rw (one_more i) refl
  put_at-offset e es k v (Err i) = rw (one_more i) refl

  remove_at-offset : (e : K × X) (es : List (K × X)) (r : Result ℕ ℕ) → remove_at (e ∷ es) (offset 1 r) ≡ e ∷ remove_at es r
  remove_at-offset e es (Ok i) = rw (one_more i) refl
  remove_at-offset e es (Err i) = refl

module _ {K X : Type 0} {R : K → K → Ordering} (o : IsTotalOrder R) where
  -- a key below an entry is below those after it
  below_less : (k x : K) (es : List (K × X)) → R k x ≡ Less → T (below_all R x es) → T (below_all R k es)
  below_less k x [] p h = tt
  below_less k x (e ∷ es) p h = both_hold _ _ (subst (λ r. T (is_lt r)) (sym (o.trans k x e.0 p (is_less _ (first_holds _ _ h)))) tt) (below_less k x es p (second_holds _ _ h))

  below_tied : (k x : K) (es : List (K × X)) → R k x ≡ Equal → T (below_all R x es) → T (below_all R k es)
  below_tied k x [] p h = tt
  below_tied k x (e ∷ es) p h = both_hold _ _ (subst (λ r. T (is_lt r)) (sym (o.congr k x e.0 p)) (first_holds _ _ h)) (below_tied k x es p (second_holds _ _ h))

  -- a key below all is not found
  pub find_below : (k : K) (es : List (K × X)) → T (below_all R k es) → find R k es ≡ None
  find_below k [] h = refl
  find_below k (e ∷ es) h = ap (λ r. cond (is_eq r) (Some e.1) (find R k es)) (is_less _ (first_holds _ _ h)) ∙ find_below k es (second_holds _ _ h)

  pub find-place : (k : K) (es : List (K × X)) → T (is_sorted R es) → find R k es ≡ value_at es (place R k es)
  find-place k [] h = refl
  find-place k (e ∷ es) h =
      elim (R k e.0) as (λ r. R k e.0 ≡ r → cond (is_eq r) (Some e.1) (find R k es) ≡ value_at (e ∷ es) (by_order r (Err 0) (Ok 0) (offset 1 (place R k es)))) [
        | Less ↦ λ p. find_below k es (below_less k e.0 es p (first_holds _ _ h))
        | Equal ↦ λ p. refl
        | Greater ↦ λ p. find-place k es (second_holds _ _ h) ∙ sym (value_at-offset e es (place R k es))
      ] refl

  pub put-place : IsAntisymmetric R → (k : K) (v : X) (es : List (K × X)) → put R k v es ≡ put_at es k v (place R k es)
  put-place exact k v [] = refl
  put-place exact k v (e ∷ es) =
      elim (R k e.0) as (λ r. R k e.0 ≡ r → by_order r ((k, v) ∷ e ∷ es) ((e.0, v) ∷ es) (e ∷ put R k v es) ≡ put_at (e ∷ es) k v (by_order r (Err 0) (Ok 0) (offset 1 (place R k es)))) [
        | Less ↦ λ p. refl
        | Equal ↦ λ p. ap (λ x. (x, v) ∷ es) (sym (exact k e.0 p))
        | Greater ↦ λ p. ap (λ fs. e ∷ fs) (put-place exact k v es) ∙ sym (put_at-offset e es k v (place R k es))
      ] refl

  -- nothing ties with a key below all
  without_below : (k : K) (es : List (K × X)) → T (below_all R k es) → where_key R (λ x. not (eq_by_cmp R k x)) es ≡ es
  without_below k [] h = refl
  without_below k (e ∷ es) h =
      ap (λ r. cond (not (is_eq r)) (e ∷ where_key R (λ x. not (eq_by_cmp R k x)) es) (where_key R (λ x. not (eq_by_cmp R k x)) es)) (is_less _ (first_holds _ _ h))
      ∙ ap (λ fs. e ∷ fs) (without_below k es (second_holds _ _ h))

  pub without-place : (k : K) (es : List (K × X)) → T (is_sorted R es) → where_key R (λ x. not (eq_by_cmp R k x)) es ≡ remove_at es (place R k es)
  without-place k [] h = refl
  without-place k (e ∷ es) h =
      let left = where_key R (λ x. not (eq_by_cmp R k x)) es in
      elim (R k e.0) as (λ r. R k e.0 ≡ r → cond (not (is_eq r)) (e ∷ left) left ≡ remove_at (e ∷ es) (by_order r (Err 0) (Ok 0) (offset 1 (place R k es)))) [
        | Less ↦ λ p. ap (λ fs. e ∷ fs) (without_below k es (below_less k e.0 es p (first_holds _ _ h)))
        | Equal ↦ λ p. without_below k es (below_tied k e.0 es p (first_holds _ _ h))
        | Greater ↦ λ p. ap (λ fs. e ∷ fs) (without-place k es (second_holds _ _ h)) ∙ sym (remove_at-offset e es (place R k es))
      ] refl

  pub place_bound : (k : K) (es : List (K × X)) → IsSearchInRange (place R k es) (length es)
  place_bound k [] = lit≤ tt
  place_bound k (e ∷ es) =
      elim (R k e.0) as (λ r. IsSearchInRange (by_order r (Err 0) (Ok 0) (offset 1 (place R k es))) (suc (length es))) [
        | Less ↦ omega arith
        | Equal ↦ omega arith
        | Greater ↦ bound-offset (place R k es) (length es) (place_bound k es)
      ]

  -- a key that is found behind an entry does not tie with it
  pub tied_not_below : (k : K) (e : K × X) (es : List (K × X)) → T (is_sorted R (e ∷ es)) → (v : X) → find R k es ≡ Some v → eq_by_cmp R k e.0 ≡ false
  tied_not_below k e es h v f =
      elim (R k e.0) as (λ r. R k e.0 ≡ r → is_eq r ≡ false) [
        | Less ↦ λ p. refl
        | Equal ↦ λ p. none_is_some v (sym (find_below k es (below_tied k e.0 es p (first_holds _ _ h))) ∙ f)
        | Greater ↦ λ p. refl
      ] refl

  pub is_sorted_tail : (e : K × X) (es : List (K × X)) → T (is_sorted R (e ∷ es)) → T (is_sorted R es)
  is_sorted_tail e es h = second_holds _ _ h

  -- an entry that ties with the key is the only one
  pub find_tied_head : (k : K) (e : K × X) (es : List (K × X)) → T (is_sorted R (e ∷ es)) → eq_by_cmp R k e.0 ≡ true → find R k es ≡ None
  find_tied_head k e es h t =
      elim (R k e.0) as (λ r. R k e.0 ≡ r → is_eq r ≡ true → find R k es ≡ None) [
        | Less ↦ λ p q. differ false refl q
        | Equal ↦ λ p q. find_below k es (below_tied k e.0 es p (first_holds _ _ h))
        | Greater ↦ λ p q. differ false refl q
      ] refl t

  -- a key below all is less than each that is found
  pub below_found : IsAntisymmetric R → (k q : K) (v : X) (es : List (K × X)) → T (below_all R k es) → find R q es ≡ Some v → R k q ≡ Less
  below_found exact k q v [] h f = none_is_some v f
  below_found exact k q v (e ∷ es) h f =
      elim (R q e.0) as (λ r. R q e.0 ≡ r → cond (is_eq r) (Some e.1) (find R q es) ≡ Some v → R k q ≡ Less) [
        | Less ↦ λ p g. below_found exact k q v es (second_holds _ _ h) g
        | Equal ↦ λ p g. ap (R k) (exact q e.0 p) ∙ is_less _ (first_holds _ _ h)
        | Greater ↦ λ p g. below_found exact k q v es (second_holds _ _ h) g
      ] refl f

  pub is_sorted_head : (e : K × X) (es : List (K × X)) → T (is_sorted R (e ∷ es)) → T (below_all R e.0 es)
  is_sorted_head e es h = first_holds _ _ h
