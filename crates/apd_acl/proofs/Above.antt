-- Among entries in order, the first one is the least, and the one behind a key's place is the least above the key.
use Rattle.std.proofs.Common.{◌≡◌, ◌≢◌, ℕ, suc, ◌+◌, cond, List, [], ◌∷◌, Option, Some, None, MatchOption, Result, Ok, Err, inl, inr, refl, sym, ap, subst, ◌∙◌, T, arith}
use Rattle.std.specs.List.{slice_get}
use Rattle.std.specs.Cmp.{IsTotalOrder, tied_itself}
use Rattle.std.specs.declared.cmp.Ordering.{Ordering}
use Rattle.std.specs.declared.cmp.Ordering.TheVariants.{Less, Equal, Greater}
use Rattle.std.specs.FinMap.{find, is_sorted, IsAntisymmetric}
use Rattle.apd_base.specs.Rows.{place, offset, by_order}
use Rattle.apd_base.proofs.MapLemmas.{one_or_apart, tied}
use Rattle.apd_base.proofs.RowsLemmas.{below_found, is_sorted_head, is_sorted_tail, tied_not_below}

less_not : (r : Ordering) → r ≡ Less → r ≢ Greater
less_not r e g = cc

equal_not : (r : Ordering) → r ≡ Equal → r ≢ Greater
equal_not r e g = cc

equal_less : {A : Type 0} (r : Ordering) → r ≡ Equal → r ≡ Less → A
equal_less r e l = cc

greater_less : {A : Type 0} (r : Ordering) → r ≡ Greater → r ≡ Less → A
greater_less r e l = cc

none_some : {A B : Type 0} (v : A) → None ≡ Some v → B
none_some v e = cc

one_more : (i : ℕ) → 1 + i ≡ suc i
one_more i = omega arith

one_on : (i : ℕ) → i + 1 ≡ suc i
one_on i = omega arith

-- the entry behind the place of a key
abbrev pub above_at : {K X : Type 0} → List (K × X) → Result ℕ ℕ → Option (K × X)
above_at es (Ok i) = slice_get es (i + 1)
above_at es (Err i) = slice_get es i

above_at-offset : {K X : Type 0} (e : K × X) (es : List (K × X)) (r : Result ℕ ℕ) → above_at (e ∷ es) (offset 1 r) ≡ above_at es r
above_at-offset e es (Ok i) = ap (slice_get (e ∷ es)) (one_on (1 + i)) ∙ ap (slice_get es) (one_more i ∙ sym (one_on i))
above_at-offset e es (Err i) = ap (slice_get (e ∷ es)) (one_more i)

module _ {K X : Type 0} {R : K → K → Ordering} (o : IsTotalOrder R) (exact : IsAntisymmetric R) where
  pub found_head : (e : K × X) (es : List (K × X)) → find R e.0 (e ∷ es) ≡ Some e.1
  found_head e es = ap (λ t. cond t (Some e.1) (find R e.0 es)) (tied o exact e.0)

  -- the first entry is the least
  pub head_least : (e : K × X) (es : List (K × X)) → T (is_sorted R (e ∷ es)) → (q : K) (v : X) → find R q (e ∷ es) ≡ Some v → R e.0 q ≢ Greater
  head_least e es h q v f =
      elim (one_or_apart o exact q e.0) [
        | inl same ↦ equal_not _ (ap (R e.0) same ∙ tied_itself o e.0)
        | inr ne ↦ less_not _ (below_found o exact e.0 q v es (is_sorted_head o e es h) (sym (ap (λ t. cond t (Some e.1) (find R q es)) ne) ∙ f))
      ]

  -- the least of the entries above a key
  pub record IsAbove (k : K) (es : List (K × X)) (e : K × X) : Type 0 where
    pub entry : find R e.0 es ≡ Some e.1
    pub above : R k e.0 ≡ Less
    pub least : (q : K) (v : X) → find R q es ≡ Some v → R k q ≡ Less → R e.0 q ≢ Greater

  abbrev pub NoneAbove : K → List (K × X) → Type 0
  NoneAbove k es = (q : K) (v : X) → find R q es ≡ Some v → R k q ≢ Less

  -- above a key that is not below the first entry, only what is behind that counts
  behind : (k : K) (e : K × X) (es : List (K × X)) → R k e.0 ≢ Less → (q : K) (v : X) → find R q (e ∷ es) ≡ Some v → R k q ≡ Less → find R q es ≡ Some v
  behind k e es not q v f l =
      elim (one_or_apart o exact q e.0) [
        | inl same ↦ absurd (not (sym (ap (R k) same) ∙ l))
        | inr ne ↦ sym (ap (λ t. cond t (Some e.1) (find R q es)) ne) ∙ f
      ]

  kept : (k : K) (e : K × X) (es : List (K × X)) → T (is_sorted R (e ∷ es)) → R k e.0 ≢ Less → (r : Option (K × X)) → MatchOption r (NoneAbove k es) (IsAbove k es) → MatchOption r (NoneAbove k (e ∷ es)) (IsAbove k (e ∷ es))
  kept k e es h not None none = λ q v f l. none q v (behind k e es not q v f l) l
  kept k e es h not (Some x) is = record {
    entry = ap (λ t. cond t (Some e.1) (find R x.0 es)) (tied_not_below o x.0 e es h x.1 is.entry) ∙ is.entry;
    above = is.above;
    least = λ q v f l. is.least q v (behind k e es not q v f l) l;
  }

  first_above : (k : K) (es : List (K × X)) → T (is_sorted R es) → ((q : K) (v : X) → find R q es ≡ Some v → R k q ≡ Less) → MatchOption (slice_get es 0) (NoneAbove k es) (IsAbove k es)
  first_above k [] h all = λ q v f l. none_some v f
  first_above k (e ∷ es) h all = record { entry = found_head e es; above = all e.0 e.1 (found_head e es); least = λ q v f l. head_least e es h q v f }

  pub above_is : (k : K) (es : List (K × X)) → T (is_sorted R es) → MatchOption (above_at es (place R k es)) (NoneAbove k es) (IsAbove k es)
  above_is k [] h = λ q v f l. none_some v f
  above_is k (e ∷ es) h =
      elim (R k e.0) as (λ r. R k e.0 ≡ r → MatchOption (above_at (e ∷ es) (by_order r (Err 0) (Ok 0) (offset 1 (place R k es)))) (NoneAbove k (e ∷ es)) (IsAbove k (e ∷ es))) [
        | Less ↦ λ p. record { entry = found_head e es; above = p; least = λ q v f l. head_least e es h q v f }
        | Equal ↦ λ p. kept k e es h (λ l. equal_less _ p l) (slice_get es 0)
            (first_above k es (is_sorted_tail o e es h) (λ q v f. ap (λ x. R x q) (exact k e.0 p) ∙ below_found o exact e.0 q v es (is_sorted_head o e es h) f))
        | Greater ↦ λ p. subst (λ x. MatchOption x (NoneAbove k (e ∷ es)) (IsAbove k (e ∷ es))) (sym (above_at-offset e es (place R k es)))
            (kept k e es h (λ l. greater_less _ p l) (above_at es (place R k es)) (above_is k es (is_sorted_tail o e es h)))
      ] refl
