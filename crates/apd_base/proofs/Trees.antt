-- The entries of an ordered map, and the keys of an ordered set, as finite maps and sets: what their calls
-- say of look-ups is told of the map.
use Rattle.std.proofs.Common.{◌≡◌, cond, List, [], ◌∷◌, Some, None, refl, sym, ap, subst, ◌∙◌, T}
use Rattle.std.specs.BTreeMap.{is_at}
use Rattle.std.specs.Map.{keys_of, lookup}
use Rattle.std.specs.List.{AllByRecursion}
use Rattle.std.specs.List.Sorted.{IsStrictlySortedBy}
use Rattle.std.specs.Ordering.{eq_by_cmp, is_lt}
use Rattle.std.specs.Cmp.{IsTotalOrder, eq_by_cmp_equiv}
use Rattle.std.specs.declared.cmp.Ordering.{Ordering}
use Rattle.std.specs.declared.cmp.Ordering.TheVariants.{Less}
use Rattle.std.specs.FinMap as map
use Rattle.std.specs.FinMap.{IsAntisymmetric, find, is_sorted, from_sorted, get-from_sorted, get-insert, get-remove, same_map}
use Rattle.std.specs.FinMap.Entries.{below_all}
use Rattle.std.proofs.lemmas.Map.Keys.{sorted_head, sorted_tail}
use Rattle.apd_base.proofs.Cases.{both_hold, first_holds, second_holds, is_less}

lt_holds : (r : Ordering) → r ≡ Less → T (is_lt r)
lt_holds r e = subst (λ x. T (is_lt x)) (sym e) tt

-- the value of a key among entries, in the words of finite maps and in those of ordered maps
pub find-lookup : {K X : Type 0} (R : K → K → Ordering) (q : K) (es : List (K × X)) → find R q es ≡ lookup (is_at (R q)) es
find-lookup R q [] = refl
find-lookup R q (e ∷ es) = ap (cond (eq_by_cmp R q e.0) (Some e.1)) (find-lookup R q es)

below_keys : {K X : Type 0} (R : K → K → Ordering) (k : K) (es : List (K × X)) → AllByRecursion (λ q. R k q ≡ Less) (keys_of es) → T (below_all R k es)
below_keys R k [] h = tt
below_keys R k (e ∷ es) h = both_hold _ _ (lt_holds _ h.0) (below_keys R k es h.1)

-- entries whose keys rise are in order
pub in_order : {K X : Type 0} (R : K → K → Ordering) (es : List (K × X)) → IsStrictlySortedBy R (keys_of es) → T (is_sorted R es)
in_order R [] h = tt
in_order R (e ∷ es) h = both_hold _ _ (below_keys R e.0 es (sorted_head R e.0 (keys_of es) h)) (in_order R es (sorted_tail R e.0 (keys_of es) h))

above_key : {K X : Type 0} (R : K → K → Ordering) (k : K) (es : List (K × X)) → T (below_all R k es) → AllByRecursion (λ q. R k q ≡ Less) (keys_of es)
above_key R k [] h = tt
above_key R k (e ∷ es) h = (is_less _ (first_holds _ _ h), above_key R k es (second_holds _ _ h))

-- and the other way round
pub rising : {K X : Type 0} (R : K → K → Ordering) (es : List (K × X)) → T (is_sorted R es) → IsStrictlySortedBy R (keys_of es)
unfolding IsStrictlySortedBy
rising R [] h = tt
rising R (e ∷ es) h = (above_key R e.0 es (first_holds _ _ h), rising R es (second_holds _ _ h))

-- what is looked up among the entries is what the map has
pub get_lookup : {K X : Type 0} (R : K → K → Ordering) (es : List (K × X)) → T (is_sorted R es) → (q : K) → lookup (is_at (R q)) es ≡ map.get (from_sorted {R = R} es) q
get_lookup R es sorted q = sym (get-from_sorted R es q sorted ∙ find-lookup R q es)

module _ {K X : Type 0} {R : K → K → Ordering} (o : IsTotalOrder R) (exact : IsAntisymmetric R) where
  -- entries that differ at one key alone are those of the map with another value there, or with none
  pub inserted : (es fs : List (K × X)) → T (is_sorted R es) → T (is_sorted R fs) → (k : K) (v : X)
      → ((q : K) → lookup (is_at (R q)) fs ≡ cond (is_at (R k) q) (Some v) (lookup (is_at (R q)) es)) → from_sorted {R = R} fs ≡ map.insert (from_sorted es) k v
  inserted es fs sorted rises k v says = same_map o exact _ _ (λ q.
      sym (get_lookup R fs rises q) ∙ says q ∙ ap (cond (is_at (R k) q) (Some v)) (get_lookup R es sorted q)
      ∙ ap (λ t. cond t (Some v) (map.get (from_sorted {R = R} es) q)) ((eq_by_cmp_equiv o).symm k q) ∙ sym (get-insert o (from_sorted es) k v q))

  pub removed : (es fs : List (K × X)) → T (is_sorted R es) → T (is_sorted R fs) → (k : K)
      → ((q : K) → lookup (is_at (R q)) fs ≡ cond (is_at (R k) q) None (lookup (is_at (R q)) es)) → from_sorted {R = R} fs ≡ map.remove (from_sorted es) k
  removed es fs sorted rises k says = same_map o exact _ _ (λ q.
      sym (get_lookup R fs rises q) ∙ says q ∙ ap (cond (is_at (R k) q) None) (get_lookup R es sorted q)
      ∙ ap (λ t. cond t None (map.get (from_sorted {R = R} es) q)) ((eq_by_cmp_equiv o).symm k q) ∙ sym (get-remove o (from_sorted es) k q))
