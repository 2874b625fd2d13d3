-- What a search by halves finds among entries in the order of their keys.
use Rattle.std.proofs.Common.{◌≡◌, ℕ, zero, suc, ◌+◌, ◌<◌, ◌≤◌, List, [], ◌∷◌, Result, Ok, Err, length, get_or, sym, ap, ◌∙◌, arith}
use lib.Dec.{T}
use Rattle.std.specs.Ordering.{is_lt, ordering_reverse}
use Rattle.std.specs.Cmp.{IsTotalOrder}
use Rattle.std.specs.declared.cmp.Ordering.{Ordering}
use Rattle.std.specs.declared.cmp.Ordering.TheVariants.{Less, Equal, Greater}
use Rattle.std.specs.FinMap.{is_sorted}
use Rattle.std.specs.FinMap.Entries.{below_all}
use Rattle.std.specs.List.{AllWithin}
use Rattle.std.specs.List.Sorted.{IsSortedBy, IsSearchInRange, IsBinarySearchResult, IsPartitionPoint}
use Rattle.std.proofs.lemmas.List.Sorted.{searchable_from_sorted}
use Rattle.apd_base.specs.Rows.{place, offset, by_order}
use Rattle.apd_base.proofs.Cases.{first_holds, second_holds, is_less}
use Rattle.apd_base.proofs.RowsLemmas.{one_more}

module _ {K : Type 0} {R : K → K → Ordering} (o : IsTotalOrder R) where
  turned : (x y : K) (r : Ordering) → R x y ≡ r → R y x ≡ ordering_reverse r
  turned x y r e = o.antisymm y x ∙ ap ordering_reverse e

module _ {K X : Type 0} {R : K → K → Ordering} (o : IsTotalOrder R) where
  below_each : (x : K) (es : List (K × X)) (i : ℕ) (d : K × X) → T (below_all R x es) → i < length es → R x (get_or es i d).0 ≡ Less
  below_each x [] i d h l = absurd (omega arith)
  below_each x (e ∷ es) zero d h l = is_less _ (first_holds _ _ h)
  below_each x (e ∷ es) (suc i) d h l = below_each x es i d (second_holds _ _ h) (omega arith)

  rises : (es : List (K × X)) → T (is_sorted R es) → IsSortedBy (λ a b. is_lt (R a.0 b.0)) es
  rises [] h k d low high = absurd (omega arith)
  rises (e ∷ es) h zero d low high = ap is_lt (turned o e.0 _ Less (below_each e.0 es 0 d (first_holds _ _ h) (omega arith)))
  rises (e ∷ es) h (suc k) d low high =
      let next : suc k + 1 ≡ suc (k + 1) = omega arith in
      rw next (rises es (second_holds _ _ h) k d (omega arith) (omega arith))

  -- where the key stands
  place_of_equal : (k : K) (es : List (K × X)) (i : ℕ) (d : K × X) → T (is_sorted R es) → i < length es → R (get_or es i d).0 k ≡ Equal → place R k es ≡ Ok i
  place_of_equal k [] i d h l p = absurd (omega arith)
  place_of_equal k (e ∷ es) zero d h l p = ap (λ r. by_order r (Err 0) (Ok 0) (offset 1 (place R k es))) (turned o e.0 k Equal p)
  place_of_equal k (e ∷ es) (suc i) d h l p =
      let behind = o.congr _ k e.0 p in
      let above = sym behind ∙ turned o e.0 _ Less (below_each e.0 es i d (first_holds _ _ h) (omega arith)) in
      ap (λ r. by_order r (Err 0) (Ok 0) (offset 1 (place R k es))) above
      ∙ ap (offset 1) (place_of_equal k es i d (second_holds _ _ h) (omega arith) p)
      ∙ ap Ok (one_more i)

  -- where it would go
  place_of_gap : (k : K) (es : List (K × X)) (i : ℕ) → i ≤ length es → IsPartitionPoint (λ y. R y.0 k ≡ Less) (λ y. R y.0 k ≡ Greater) es i → place R k es ≡ Err i
  place_of_gap k [] i l p = ap Err (omega arith)
  place_of_gap k (e ∷ es) zero l p = ap (λ r. by_order r (Err 0) (Ok 0) (offset 1 (place R k es))) (turned o e.0 k Greater (p.1 0 e (omega arith) (omega arith)))
  place_of_gap k (e ∷ es) (suc i) l p =
      let below : AllWithin (λ y. R y.0 k ≡ Less) es 0 i = λ j d low high. p.0 (suc j) d (omega arith) (omega arith) in
      let above : AllWithin (λ y. R y.0 k ≡ Greater) es i (length es) = λ j d low high. p.1 (suc j) d (omega arith) (omega arith) in
      ap (λ r. by_order r (Err 0) (Ok 0) (offset 1 (place R k es))) (turned o e.0 k Less (p.0 0 e (omega arith) (omega arith)))
      ∙ ap (offset 1) (place_of_gap k es i (omega arith) (below, above))
      ∙ ap Err (one_more i)

  -- what a search by the order of each key and the one sought finds
  pub place_found : (k : K) (es : List (K × X)) (r : Result ℕ ℕ) → T (is_sorted R es) → IsSearchInRange r (length es) → IsBinarySearchResult (λ y. R y.0 k) es r → r ≡ place R k es
  place_found k [] (Ok i) h l p = absurd (omega arith)
  place_found k (e ∷ es) (Ok i) h l p = sym (place_of_equal k (e ∷ es) i e h l (p e))
  place_found k es (Err i) h l p = sym (place_of_gap k es i l (p (searchable_from_sorted o (λ e. e.0) es k (rises es h))))
