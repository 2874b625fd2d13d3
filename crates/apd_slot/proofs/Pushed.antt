-- Rows in order, installed one after the other.
use Rattle.std.proofs.Common.{◌≡◌, ℕ, zero, suc, ◌+◌, ◌<◌, ◌≤◌, cond, List, [], ◌∷◌, length, take, get_or, Some, None, refl, sym, ap, subst, ◌∙◌, T, arith, add-one}
use Rattle.std.proofs.Math.Seq.{take-suc}
use Rattle.std.proofs.lemmas.List.{take_all}
use Rattle.std.specs.FinMap as map
use Rattle.std.specs.FinMap.{find, is_sorted, from_entries, from_entries_push, entries, entries_sorted, get-from_entries, get-entries, same_map}
use Rattle.apd_base.specs.declared.address.Addr.{Addr}
use Rattle.apd_base.specs.Addr.{addr_cmp}
use Rattle.apd_base.proofs.AddrLemmas.{addr_total, addr_exact}
use Rattle.apd_base.proofs.MapLemmas.{tied}
use Rattle.apd_base.proofs.RowsLemmas.{tied_not_below, is_sorted_tail}
use Rattle.apd_slot.specs.Wanted.{Stations}

abbrev Row : Type 0
Row = Addr × ℕ

-- a row in order is found by its address
found_at : (rows : List Row) (i : ℕ) (d : Row) → i < length rows → T (is_sorted addr_cmp rows) → find addr_cmp (get_or rows i d).0 rows ≡ Some (get_or rows i d).1
found_at [] i d lt h = absurd (omega arith)
found_at (x ∷ rows) zero d lt h = ap (λ t. cond t (Some x.1) (find addr_cmp x.0 rows)) (tied addr_total addr_exact x.0)
found_at (x ∷ rows) (suc i) d lt h =
    let later = found_at rows i d (omega arith) (is_sorted_tail addr_total x rows h) in
    ap (λ t. cond t (Some x.1) (find addr_cmp (get_or rows i d).0 rows)) (tied_not_below addr_total (get_or rows i d).0 x rows h (get_or rows i d).1 later) ∙ later

-- and not in front of it
new_at : (rows : List Row) (i : ℕ) (d : Row) → i < length rows → T (is_sorted addr_cmp rows) → find addr_cmp (get_or rows i d).0 (take i rows) ≡ None
new_at [] i d lt h = absurd (omega arith)
new_at (x ∷ rows) zero d lt h = refl
new_at (x ∷ rows) (suc i) d lt h =
    let tail = is_sorted_tail addr_total x rows h in
    let later = found_at rows i d (omega arith) tail in
    ap (λ t. cond t (Some x.1) (find addr_cmp (get_or rows i d).0 (take i rows))) (tied_not_below addr_total (get_or rows i d).0 x rows h (get_or rows i d).1 later) ∙ new_at rows i d (omega arith) tail

module _ (m : Stations) (rows : List Row) (are : rows ≡ entries m) where
  sorted : T (is_sorted addr_cmp rows)
  sorted = subst (λ (r : List Row). T (is_sorted addr_cmp r)) (sym are) (entries_sorted m)

  -- the rows so far, and one more
  one_more : (i : ℕ) (d : Row) → i < length rows → from_entries {R = addr_cmp} (take (i + 1) rows) ≡ map.insert (from_entries (take i rows)) (get_or rows i d).0 (get_or rows i d).1
  one_more i d lt =
      ap from_entries (rw add-one (take-suc rows i d lt))
      ∙ from_entries_push addr_total addr_exact (take i rows) (get_or rows i d).0 (get_or rows i d).1 (new_at rows i d lt sorted)

  pub installs : (i : ℕ) (d : Row) → i < length rows → (now new : Stations) → now ≡ from_entries (take i rows) → new ≡ map.insert now (get_or rows i d).0 (get_or rows i d).1 → new ≡ from_entries (take (i + 1) rows)
  installs i d lt now new before inserted = inserted ∙ ap (λ (n : Stations). map.insert n (get_or rows i d).0 (get_or rows i d).1) before ∙ sym (one_more i d lt)

  -- all of them
  pub all_rows : (i : ℕ) → length rows ≤ i → from_entries (take i rows) ≡ m
  all_rows i end =
      ap from_entries (take_all i rows end ∙ are)
      ∙ same_map addr_total addr_exact _ _ (λ q. get-from_entries addr_total (entries m) q ∙ sym (get-entries m q))
