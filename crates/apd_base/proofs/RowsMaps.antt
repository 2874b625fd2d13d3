-- Entries in order as finite maps: what an edit at a key's place means.
use Rattle.std.proofs.Common.{◌≡◌, ℕ, Bool, true, false, cond, not, List, Option, None, Result, Ok, Err, OnOk, OnErr, IsOk, IsSome, refl, sym, ap, subst, ◌∙◌, T}
use Rattle.std.specs.Ordering.{eq_by_cmp, is_eq}
use Rattle.std.specs.Cmp.{IsTotalOrder, alike_right, eq_by_cmp_equiv}
use Rattle.std.specs.declared.cmp.Ordering.{Ordering}
use Rattle.std.specs.declared.cmp.Ordering.TheVariants.{Equal}
use Rattle.std.specs.FinMap as map
use Rattle.std.specs.FinMap.{FinMap, find, put, is_sorted, IsAntisymmetric, entries, from_sorted, same_entries_map, entries-insert, entries-from_sorted, entries_sorted, get-from_sorted, get-remove, get-retain_keys, same_map}
use Rattle.std.specs.FinMap.Entries.{where_key, is_sorted-put, is_sorted-where_key, find-where_key}
use Rattle.apd_base.specs.Rows.{place, put_at, remove_at, value_at}
use Rattle.apd_base.proofs.RowsLemmas.{put-place, without-place, find-place}

turned : {A : Type 0} (b : Bool) (x y : A) → cond (not b) x y ≡ cond b y x
turned true x y = refl
turned false x y = refl

some_place : {K X : Type 0} (es : List (K × X)) (p : Result ℕ ℕ) → IsSome (value_at es p) → IsOk p
some_place es (Ok i) h = refl
some_place es (Err i) h = h

module _ {K X : Type 0} {R : K → K → Ordering} (o : IsTotalOrder R) (exact : IsAntisymmetric R) where
  -- the rows that pass a test
  pub retain_keys-from_sorted : (p : K → Bool) (es : List (K × X)) → T (is_sorted R es) → map.retain_keys (from_sorted {R = R} es) p ≡ from_sorted (where_key R p es)
  retain_keys-from_sorted p es h =
      let alike : (q x : K) → R q x ≡ Equal → p x ≡ p q = λ q x t. ap p (sym (exact q x t)) in
      same_map o exact _ _ (λ q.
      get-retain_keys _ p q (alike q) ∙ ap (λ v. cond (p q) v None) (get-from_sorted R es q h)
      ∙ sym (get-from_sorted R (where_key R p es) q (is_sorted-where_key R p es h) ∙ find-where_key R p q (alike q) es))

  pub from_sorted-entries : (m : FinMap R X) → from_sorted (entries m) ≡ m
  from_sorted-entries m = same_entries_map _ _ (entries-from_sorted R (entries m) (entries_sorted m))

  pub entries-retain_keys : (p : K → Bool) (m : FinMap R X) → entries (map.retain_keys m p) ≡ where_key R p (entries m)
  entries-retain_keys p m =
      ap (λ n. entries (map.retain_keys n p)) (sym (from_sorted-entries m))
      ∙ ap entries (retain_keys-from_sorted p (entries m) (entries_sorted m))
      ∙ entries-from_sorted R _ (is_sorted-where_key R p (entries m) (entries_sorted m))

  pub sorted_put_at : (k : K) (v : X) (es : List (K × X)) → T (is_sorted R es) → T (is_sorted R (put_at es k v (place R k es)))
  sorted_put_at k v es h = subst (λ fs. T (is_sorted R fs)) (put-place o exact k v es) (is_sorted-put R o k v es h)

  pub insert-from_sorted : (k : K) (v : X) (es : List (K × X)) → T (is_sorted R es) → map.insert (from_sorted {R = R} es) k v ≡ from_sorted (put_at es k v (place R k es))
  insert-from_sorted k v es h =
      same_entries_map _ _ (entries-insert o (from_sorted es) k v ∙ ap (put R k v) (entries-from_sorted R es h) ∙ put-place o exact k v es
      ∙ sym (entries-from_sorted R _ (sorted_put_at k v es h)))

  pub sorted_remove_at : (k : K) (es : List (K × X)) → T (is_sorted R es) → T (is_sorted R (remove_at es (place R k es)))
  sorted_remove_at k es h = subst (λ fs. T (is_sorted R fs)) (without-place o k es h) (is_sorted-where_key R (λ x. not (eq_by_cmp R k x)) es h)

  pub remove-from_sorted : (k : K) (es : List (K × X)) → T (is_sorted R es) → map.remove (from_sorted {R = R} es) k ≡ from_sorted (remove_at es (place R k es))
  remove-from_sorted k es h =
      same_map o exact _ _ (λ q. get-remove o (from_sorted es) k q ∙ sym (turned (eq_by_cmp R q k) _ _) ∙ ap (λ b. cond (not b) (map.get (from_sorted {R = R} es) q) None) ((eq_by_cmp_equiv o).symm q k)
      ∙ sym (get-retain_keys (from_sorted es) (λ x. not (eq_by_cmp R k x)) q (λ x t. ap (λ r. not (is_eq r)) (sym (alike_right o q x k t)))))
      ∙ retain_keys-from_sorted (λ x. not (eq_by_cmp R k x)) es h
      ∙ ap from_sorted (without-place o k es h)

  -- what a put that may lack memory leaves
  pub put_sorted : {E : Type 0} (k : K) (v : X) (es fs : List (K × X)) → T (is_sorted R es) → (r : Result (Unit {0}) E) → (T (is_sorted R es) → OnOk r (fs ≡ put_at es k v (place R k es))) → OnErr r (fs ≡ es) → T (is_sorted R fs)
  put_sorted k v es fs sorted (Ok u) ok err = rw (ok sorted) (sorted_put_at k v es sorted)
  put_sorted k v es fs sorted (Err e) ok err = rw err sorted

  pub put_means : {E : Type 0} (k : K) (v : X) (es fs : List (K × X)) → T (is_sorted R es) → (r : Result (Unit {0}) E) → (T (is_sorted R es) → OnOk r (fs ≡ put_at es k v (place R k es))) → OnOk r (from_sorted {R = R} fs ≡ map.insert (from_sorted es) k v)
  put_means k v es fs sorted (Ok u) ok = ap from_sorted (ok sorted) ∙ sym (insert-from_sorted k v es sorted)
  put_means k v es fs sorted (Err e) ok = tt

  pub found_place : (k : K) (es : List (K × X)) → T (is_sorted R es) → IsSome (map.get (from_sorted {R = R} es) k) → IsOk (place R k es)
  found_place k es sorted h = some_place es _ (subst IsSome (get-from_sorted R es k sorted ∙ find-place o k es sorted) h)

-- what a call says of rows in order it says of those that it was given
module _ {K X : Type 0} (R : K → K → Ordering) (k : K) (es given : List (K × X)) (same : given ≡ es) (sorted : T (is_sorted R es)) where
  given_sorted : T (is_sorted R given)
  given_sorted = subst (λ xs. T (is_sorted R xs)) (sym same) sorted

  pub placed : (r : Result ℕ ℕ) → (T (is_sorted R given) → r ≡ place R k given) → r ≡ place R k es
  placed r says = says given_sorted ∙ ap (place R k) same

  pub valued : (o : Option X) → (T (is_sorted R given) → o ≡ find R k given) → o ≡ find R k es
  valued o says = says given_sorted ∙ ap (find R k) same
