-- How many addresses the list of a BSSID has, counted in the list rows of a state.
use Rattle.std.proofs.Common.{◌≡◌, suc, ◌≤◌, Bool, true, false, cond, ◌&&◌, List, [], ◌∷◌, map as list_map, filter, Some, None, length, inl, inr, refl, sym, ap, subst, ◌∙◌, T}
use Rattle.apd_table.proofs.Words.{Addr, Bssid, SetOf, Which, addr_cmp, and_parts, apart, below_all, bssid_cmp, bssid_exact, bssid_total, contains, differ, entries-from_sorted, entries_sorted, eq_by_cmp, from_sorted, get-entries, get-from_sorted, is_list_row_of, is_lt, is_some, is_sorted, len-entries, list_cmp, list_exact, list_total, one_or_apart, ordering_then, tied, tied_itself, which_cmp, which_exact, which_total}
use Rattle.std.specs.FinMap as map
use Rattle.std.specs.FinMap.{find, entries}
use Rattle.std.proofs.lemmas.List.Sums.{length-filter, count_by-le-length}
use Rattle.apd_table.proofs.ListSets.{same_set, same_row, contains-retain_keys}

-- of no other list
abbrev pub IsOf : Bssid → Which → Bssid × Which × Addr → Type 0
IsOf b w q = (q.0 ≡ b) × (q.1 ≡ w)

pub row_is_of : (b : Bssid) (w : Which) (q : Bssid × Which × Addr) → is_list_row_of b w q ≡ true → IsOf b w q
row_is_of b w q e =
    let parts = and_parts (eq_by_cmp bssid_cmp b q.0) (eq_by_cmp which_cmp w q.1) e in (
      elim (one_or_apart bssid_total bssid_exact b q.0) [ inl same ↦ sym same | inr ne ↦ differ _ ne parts.0 ],
      elim (one_or_apart which_total which_exact w q.1) [ inl same ↦ sym same | inr ne ↦ differ _ ne parts.1 ],
    )

abbrev pub Item : Type 0
Item = Addr × Unit {0}

abbrev pub Row : Type 0
Row = (Bssid × Which × Addr) × Unit {0}

module _ (b : Bssid) (w : Which) where
  -- the rows of one list
  abbrev pub rows_of : List Item → List Row
  rows_of es = list_map (λ (e : Item). ((b, w, e.0), e.1)) es

  at_list : (x y : Addr) → list_cmp (b, w, x) (b, w, y) ≡ addr_cmp x y
  at_list x y = (λ i. ordering_then (tied_itself bssid_total b i) (ordering_then (tied_itself which_total w i) (addr_cmp x y)))

  pub below-rows_of : (x : Addr) (es : List Item) → below_all list_cmp (b, w, x) (rows_of es) ≡ below_all addr_cmp x es
  below-rows_of x [] = refl
  below-rows_of x (e ∷ es) = λ i. is_lt (at_list x e.0 i) && below-rows_of x es i

  same_sorted : (es : List Item) → is_sorted list_cmp (rows_of es) ≡ is_sorted addr_cmp es
  same_sorted [] = refl
  same_sorted (e ∷ es) = λ i. below-rows_of e.0 es i && same_sorted es i

  same_key : (a x : Addr) → eq_by_cmp list_cmp (b, w, a) (b, w, x) ≡ eq_by_cmp addr_cmp a x
  same_key a x =
      same_row b b w w a x ∙ (λ i. tied bssid_total bssid_exact b i && (tied which_total which_exact w i && eq_by_cmp addr_cmp a x))

  found_of : (a : Addr) (es : List Item) → find list_cmp (b, w, a) (rows_of es) ≡ find addr_cmp a es
  found_of a [] = refl
  found_of a (e ∷ es) = λ i. cond (same_key a e.0 i) (Some e.1) (found_of a es i)

  other_key : (q : Bssid × Which × Addr) → is_list_row_of b w q ≡ false → (x : Addr) → eq_by_cmp list_cmp q (b, w, x) ≡ false
  other_key q not x =
      apart list_total list_exact q (b, w, x) (λ k. differ _ not (ap (is_list_row_of b w) k ∙ (λ i. tied bssid_total bssid_exact b i && tied which_total which_exact w i)))

  not_found : (q : Bssid × Which × Addr) → is_list_row_of b w q ≡ false → (es : List Item) → find list_cmp q (rows_of es) ≡ None
  not_found q not [] = refl
  not_found q not (e ∷ es) = ap (λ t. cond t (Some e.1) (find list_cmp q (rows_of es))) (other_key q not e.0) ∙ not_found q not es

  length-rows_of : (es : List Item) → length (rows_of es) ≡ length es
  length-rows_of [] = refl
  length-rows_of (e ∷ es) = ap suc (length-rows_of es)

  -- a BSSID's own list has as many addresses as there are list rows of it
  pub list_count-is : (l : SetOf list_cmp) (m : SetOf addr_cmp) → ((a : Addr) → contains m a ≡ contains l (b, w, a)) → map.len (map.retain_keys l (is_list_row_of b w)) ≡ map.len m
  list_count-is l m same =
      let es = entries m in
      let sorted : T (is_sorted list_cmp (rows_of es)) = subst T (sym (same_sorted es)) (entries_sorted m) in
      let one : from_sorted {R = list_cmp} (rows_of es) ≡ map.retain_keys l (is_list_row_of b w) =
      same_set list_total list_exact _ _ (λ q.
      ap is_some (get-from_sorted list_cmp (rows_of es) q sorted)
      ∙ elim (is_list_row_of b w q) as (λ t. is_list_row_of b w q ≡ t → is_some (find list_cmp q (rows_of es)) ≡ (t && contains l q)) [
        | true ↦ λ e.
            let of = row_is_of b w q e in
            let k : ◌≡◌ {A = Bssid × Which × Addr} q (b, w, q.2) = λ i. (of.0 i, of.1 i, q.2) in
            ap (λ x. is_some (find list_cmp x (rows_of es))) k ∙ ap is_some (found_of q.2 es ∙ sym (get-entries m q.2)) ∙ same q.2 ∙ ap (contains l) (sym k)
        | false ↦ λ e. ap is_some (not_found q e es)
      ] refl
      ∙ sym (contains-retain_keys list_total list_exact l (is_list_row_of b w) q)) in
      ap map.len (sym one) ∙ len-entries _ ∙ ap length (entries-from_sorted list_cmp (rows_of es) sorted) ∙ length-rows_of es ∙ sym (len-entries m)

-- a part has no more than the whole
pub length-filter_le : {X : Type 0} (p : X → Bool) (xs : List X) → length (filter p xs) ≤ length xs
length-filter_le p xs = rw (length-filter p xs) (count_by-le-length p xs)
