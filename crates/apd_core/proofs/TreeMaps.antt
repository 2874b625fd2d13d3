-- A map kept as a tree, and as a value.
use Rattle.std.proofs.Common.{◌≡◌, ℕ, ◌+◌, suc, List, [], ◌∷◌, length, cond, Option, Some, None, IsSome, refl, sym, ap, ◌∙◌, arith}
use Rattle.std.specs.Prelude.{is_some}
use Rattle.apd_core.proofs.Words.{AllByRecursion, Equal, FinMap, Greater, IsAntisymmetric, IsTotalOrder, Less, eq_by_cmp, eq_by_cmp_equiv, find-lookup, from_entries, get, get-from_entries, get-insert, get-remove, get_tied, is_eq, len, len-empty, len-insert, remove, same_map}
use Rattle.std.specs.List.Sorted.{IsStrictlySortedBy}
use Rattle.std.specs.declared.cmp.Ordering.{Ordering}
use Rattle.std.specs.FinMap.{find, insert}
use Rattle.std.specs.Map.{lookup, keys_of}
use Rattle.std.specs.BTreeMap.{is_at}

-- what is not there is not there
pub not_there : {A : Type 0} (x : Option A) → x ≡ None → IsSome x → ⊥
not_there None e h = cc
not_there (Some a) e h = cc

-- the same value at a key on which the tests agree
again : {A : Type 0} (r : Ordering) (x v g : A) → (r ≡ Equal → x ≡ g) → cond (is_eq r) x (cond (is_eq r) v g) ≡ g
again Less x v g h = refl
again Equal x v g h = h refl
again Greater x v g h = refl

more : (n m : ℕ) → n ≡ m → n + 1 ≡ suc m
more n m e = omega arith

module _ {K : Type 0} {R : K → K → Ordering} (o : IsTotalOrder R) where
  tied : (k q : K) → is_at (R k) q ≡ eq_by_cmp R q k
  tied k q = (eq_by_cmp_equiv o).symm k q

module _ {K X : Type 0} {R : K → K → Ordering} (o : IsTotalOrder R) where
  -- what the map of a tree's entries answers
  pub get-lookup : (es : List (K × X)) (q : K) → get (from_entries {R = R} es) q ≡ lookup (is_at (R q)) es
  get-lookup es q = get-from_entries o es q ∙ find-lookup R q es

  below_all : (k : K) (es : List (K × X)) → AllByRecursion (λ y. R k y ≡ Less) (keys_of es) → find R k es ≡ None
  below_all k [] h = refl
  below_all k (e ∷ es) h = ap (λ r. cond (is_eq r) (Some e.1) (find R k es)) h.0 ∙ below_all k es h.1

  -- it has as many entries as the tree
  pub len-tree : (es : List (K × X)) → IsStrictlySortedBy R (keys_of es) → len (from_entries {R = R} es) ≡ length es
  unfolding IsStrictlySortedBy
  len-tree [] h = len-empty R X
  len-tree (e ∷ es) h =
      len-insert o (from_entries es) e.0 e.1
      ∙ ap (λ v. cond (is_some v) (len (from_entries {R = R} es)) (len (from_entries {R = R} es) + 1)) (get-from_entries o es e.0 ∙ below_all e.0 es h.0)
      ∙ more _ _ (len-tree es h.1)

module _ {K X : Type 0} {R : K → K → Ordering} (o : IsTotalOrder R) (exact : IsAntisymmetric R) where
  -- a tree to which a key was added is the map with the key
  pub inserted : (es fs : List (K × X)) (k : K) (v : X)
      → ((q : K) → lookup (is_at (R q)) fs ≡ cond (is_at (R k) q) (Some v) (lookup (is_at (R q)) es))
      → from_entries {R = R} fs ≡ insert (from_entries es) k v
  inserted es fs k v h =
      same_map o exact _ _ (λ q.
      get-lookup o fs q ∙ h q ∙ ap (λ b. cond b (Some v) (lookup (is_at (R q)) es)) (tied o k q)
      ∙ ap (λ r. cond (eq_by_cmp R q k) (Some v) r) (sym (get-lookup o es q)) ∙ sym (get-insert o (from_entries es) k v q))

  -- a tree from which a key was taken is the map without the key
  pub removed : (es fs : List (K × X)) (k : K)
      → ((q : K) → lookup (is_at (R q)) fs ≡ cond (is_at (R k) q) None (lookup (is_at (R q)) es))
      → from_entries {R = R} fs ≡ remove (from_entries es) k
  removed es fs k h =
      same_map o exact _ _ (λ q.
      get-lookup o fs q ∙ h q ∙ ap (λ b. cond b None (lookup (is_at (R q)) es)) (tied o k q)
      ∙ ap (λ r. cond (eq_by_cmp R q k) None r) (sym (get-lookup o es q)) ∙ sym (get-remove o (from_entries es) k q))

  -- an insertion of a new key, taken back
  pub remove_back : (m : FinMap R X) (k : K) (v : X) → None ≡ get m k → remove (insert m k v) k ≡ m
  remove_back m k v h =
      same_map o exact _ _ (λ q.
      get-remove o (insert m k v) k q
      ∙ ap (λ r. cond (eq_by_cmp R q k) None r) (get-insert o m k v q)
      ∙ again (R q k) None (Some v) (get m q) (λ e. h ∙ get_tied o m q k e))
