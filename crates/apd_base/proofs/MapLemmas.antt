-- Finite maps at one key and over all entries.
use Rattle.std.proofs.Common.{◌≡◌, ◌≢◌, Bool, true, false, cond, List, [], ◌∷◌, Option, Some, None, ◌⊎◌, inl, inr, refl, sym, ap, subst, ◌∙◌, T, ◌||◌}
use Rattle.std.specs.List.{list_any}
use Rattle.std.specs.Ordering.{eq_by_cmp, is_eq}
use Rattle.std.specs.Cmp.{IsTotalOrder, tied_itself}
use Rattle.std.specs.declared.cmp.Ordering.{Ordering}
use Rattle.std.specs.declared.cmp.Ordering.TheVariants.{Less, Equal, Greater}
use Rattle.std.specs.FinMap as map
use Rattle.std.specs.FinMap.{FinMap, find, is_sorted, IsAntisymmetric, entries, entries_sorted, get-insert, get-remove, get-entries, get-retain_keys, same_map}
use Rattle.apd_base.proofs.Cases.{same_some}
use Rattle.apd_base.proofs.RowsLemmas.{tied_not_below, is_sorted_tail}

equal : (r : Ordering) → is_eq r ≡ true → r ≡ Equal
equal Less e = cc
equal Equal e = refl
equal Greater e = cc

or-true : (b : Bool) → (b || true) ≡ true
or-true true = refl
or-true false = refl

module _ {K : Type 0} {R : K → K → Ordering} (o : IsTotalOrder R) (exact : IsAntisymmetric R) where
  -- two keys are one, or the order tells them apart
  pub one_or_apart : (q k : K) → (q ≡ k) ⊎ (eq_by_cmp R q k ≡ false)
  one_or_apart q k = elim (is_eq (R q k)) as (λ b. is_eq (R q k) ≡ b → (q ≡ k) ⊎ (b ≡ false)) [ true ↦ λ e. inl (exact q k (equal _ e)) | false ↦ λ e. inr refl ] refl

  pub apart : (q k : K) → q ≢ k → eq_by_cmp R q k ≡ false
  apart q k ne = elim (one_or_apart q k) [ inl e ↦ absurd (ne e) | inr e ↦ e ]

  pub tied : (k : K) → eq_by_cmp R k k ≡ true
  tied k = ap is_eq (tied_itself o k)

module _ {K X : Type 0} {R : K → K → Ordering} (o : IsTotalOrder R) (exact : IsAntisymmetric R) where
  pub get_inserted : (m : FinMap R X) (k : K) (v : X) → map.get (map.insert m k v) k ≡ Some v
  get_inserted m k v = get-insert o m k v k ∙ ap (λ b. cond b (Some v) (map.get m k)) (tied o exact k)

  pub get_insert_other : (m : FinMap R X) (k : K) (v : X) (q : K) → eq_by_cmp R q k ≡ false → map.get (map.insert m k v) q ≡ map.get m q
  get_insert_other m k v q ne = get-insert o m k v q ∙ ap (λ b. cond b (Some v) (map.get m q)) ne

  pub get_removed : (m : FinMap R X) (k : K) → map.get (map.remove m k) k ≡ None
  get_removed m k = get-remove o m k k ∙ ap (λ b. cond b None (map.get m k)) (tied o exact k)

  pub get_remove_other : (m : FinMap R X) (k q : K) → eq_by_cmp R q k ≡ false → map.get (map.remove m k) q ≡ map.get m q
  get_remove_other m k q ne = get-remove o m k q ∙ ap (λ b. cond b None (map.get m q)) ne

  -- an entry that passes a test is among all
  passes_in : (p : K × X → Bool) (k : K) (v : X) (es : List (K × X)) → find R k es ≡ Some v → p (k, v) ≡ true → list_any p es ≡ true
  passes_in p k v [] f e = cc
  passes_in p k v (x ∷ es) f e =
      elim (eq_by_cmp R k x.0) as (λ b. eq_by_cmp R k x.0 ≡ b → cond b (Some x.1) (find R k es) ≡ Some v → (p x || list_any p es) ≡ true) [
        | true ↦ λ t g. ap (λ b. b || list_any p es) ((λ i. p (sym (exact k x.0 (equal _ t)) i, same_some x.1 v g i)) ∙ e)
        | false ↦ λ t g. rw (passes_in p k v es g e) (or-true (p x))
      ] refl f

  pub passes_any : (p : K × X → Bool) (m : FinMap R X) (k : K) (v : X) → map.get m k ≡ Some v → p (k, v) ≡ true → list_any p (entries m) ≡ true
  passes_any p m k v g e = passes_in p k v (entries m) (sym (get-entries m k) ∙ g) e

  -- one among all that passes a test is an entry
  abbrev pub Passing : (K × X → Bool) → (K → Option X) → Type 0
  Passing p at = (k : K) × (v : X) × (at k ≡ Some v) × (p (k, v) ≡ true)

  one_passes : (p : K × X → Bool) (es : List (K × X)) → T (is_sorted R es) → list_any p es ≡ true → Passing p (λ k. find R k es)
  one_passes p [] h e = cc
  one_passes p (x ∷ es) h e =
      elim (p x) as (λ b. p x ≡ b → (b || list_any p es) ≡ true → Passing p (λ k. find R k (x ∷ es))) [
        | true ↦ λ px _. (x.0, x.1, ap (λ b. cond b (Some x.1) (find R x.0 es)) (tied o exact x.0), px)
        | false ↦ λ px rest.
            let one = one_passes p es (is_sorted_tail o x es h) rest in
            (one.0, one.1, ap (λ b. cond b (Some x.1) (find R one.0 es)) (tied_not_below o one.0 x es h one.1 one.2) ∙ one.2, one.3)
      ] refl e

  pub any_passes : (p : K × X → Bool) (m : FinMap R X) → list_any p (entries m) ≡ true → Passing p (map.get m)
  any_passes p m e = let one = one_passes p (entries m) (entries_sorted m) e in (one.0, one.1, get-entries m one.0 ∙ one.2, one.3)

  none_either : (t : Bool) → ◌≡◌ {A = Option X} (cond t None None) None
  none_either true = refl
  none_either false = refl

  -- a part of a map after an insert into the whole
  pub retain_keys-insert_in : (p : K → Bool) (m : FinMap R X) (k : K) (v : X) → p k ≡ true → map.retain_keys (map.insert m k v) p ≡ map.insert (map.retain_keys m p) k v
  retain_keys-insert_in p m k v pk =
      let alike : (q x : K) → R q x ≡ Equal → p x ≡ p q = λ q x t. ap p (sym (exact q x t)) in
      same_map o exact _ _ (λ q.
      elim (one_or_apart o exact q k) [
        | inl e ↦ subst (λ (z : K). map.get (map.retain_keys (map.insert m k v) p) z ≡ map.get (map.insert (map.retain_keys m p) k v) z) (sym e)
            (get-retain_keys _ p k (alike k) ∙ ap (λ b. cond b (map.get (map.insert m k v) k) None) pk ∙ get_inserted m k v ∙ sym (get_inserted (map.retain_keys m p) k v))
        | inr ne ↦ get-retain_keys _ p q (alike q) ∙ ap (λ x. cond (p q) x None) (get_insert_other m k v q ne) ∙ sym (get_insert_other _ k v q ne ∙ get-retain_keys m p q (alike q))
      ])

  pub retain_keys-insert_out : (p : K → Bool) (m : FinMap R X) (k : K) (v : X) → p k ≡ false → map.retain_keys (map.insert m k v) p ≡ map.retain_keys m p
  retain_keys-insert_out p m k v pk =
      let alike : (q x : K) → R q x ≡ Equal → p x ≡ p q = λ q x t. ap p (sym (exact q x t)) in
      same_map o exact _ _ (λ q.
      elim (one_or_apart o exact q k) [
        | inl e ↦ subst (λ (z : K). map.get (map.retain_keys (map.insert m k v) p) z ≡ map.get (map.retain_keys m p) z) (sym e)
            (get-retain_keys _ p k (alike k) ∙ ap (λ b. cond b (map.get (map.insert m k v) k) None) pk ∙ sym (get-retain_keys m p k (alike k) ∙ ap (λ b. cond b (map.get m k) None) pk))
        | inr ne ↦ get-retain_keys _ p q (alike q) ∙ ap (λ x. cond (p q) x None) (get_insert_other m k v q ne) ∙ sym (get-retain_keys m p q (alike q))
      ])

  pub retain_keys-remove : (p : K → Bool) (m : FinMap R X) (k : K) → map.retain_keys (map.remove m k) p ≡ map.remove (map.retain_keys m p) k
  retain_keys-remove p m k =
      let alike : (q x : K) → R q x ≡ Equal → p x ≡ p q = λ q x t. ap p (sym (exact q x t)) in
      same_map o exact _ _ (λ q.
      elim (one_or_apart o exact q k) [
        | inl e ↦ subst (λ (z : K). map.get (map.retain_keys (map.remove m k) p) z ≡ map.get (map.remove (map.retain_keys m p) k) z) (sym e)
            (get-retain_keys _ p k (alike k) ∙ ap (λ x. cond (p k) x None) (get_removed m k) ∙ none_either (p k) ∙ sym (get_removed (map.retain_keys m p) k))
        | inr ne ↦ get-retain_keys _ p q (alike q) ∙ ap (λ x. cond (p q) x None) (get_remove_other m k q ne) ∙ sym (get_remove_other _ k q ne ∙ get-retain_keys m p q (alike q))
      ])
