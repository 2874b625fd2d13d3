-- What an ordered map's calls leave of station rows, and what they hand out of them.
use Rattle.std.proofs.Common.{◌≡◌, ◌≢◌, ℕ, zero, suc, ◌<◌, Bool, true, false, cond, not, ◌&&◌, ◌||◌, List, [], ◌∷◌, length, filter, Option, Some, None, Bor, MatchOption, IsSome, IfSome, refl, sym, ap, subst, ◌∙◌, T, arith}
use Rattle.std.specs.Prelude.{⊤}
use Rattle.apd_table.proofs.Words.{Addr, AllByRecursion, BTreeMap, Bssid, Equal, Greater, IsAbove, IsAddr, IsFromIterResult, Less, NoneAbove, Ordering, Station, addr_cmp, bssid_cmp, bssid_total, deref_pair, eq_by_cmp, eq_by_cmp_equiv, find-lookup, insert_entry, is_at, is_eq, is_gt, is_le, is_lt, is_some_of, is_sorted, list_any, match_ordering, nat_cmp, nat_cmp_is, none_is, option_map, ordering_then, rising, slice_get, station_cmp, station_exact, station_total, tied_itself}
use Rattle.std.specs.Map.{lookup, keys_of, remove_entry}
use Rattle.std.specs.Cmp.Lexicographic.{slice_cmp}
use Rattle.std.proofs.lemmas.Map.Keys.{IsDistinct-from_sorted, le_from_is_le}
use Rattle.std.proofs.lemmas.Map.Lookups.{btree_map_from_get}
use Rattle.std.proofs.lemmas.Map.Made.{update_all_none}
use Rattle.apd_table.specs.Rows.{is_station_row_of}

abbrev pub Row : Type 0
Row = (Bssid × Addr) × Station

abbrev AreValid : List Row → Type 0
AreValid rows = AllByRecursion (λ row. IsAddr row.0.1) rows

-- ---- the addresses stay of six bytes

pub valid_inserted : (key : Bssid × Addr) (v : Station) → IsAddr key.1 → (rows : List Row) → AreValid rows → AreValid (insert_entry station_cmp rows key v)
valid_inserted key v is [] h = (is, tt)
valid_inserted key v is (row ∷ rows) h =
    elim (station_cmp key row.0) as (λ r. AreValid (match_ordering r ((key, v) ∷ row ∷ rows) ((row.0, v) ∷ rows) (row ∷ insert_entry station_cmp rows key v))) [
      | Less ↦ (is, h)
      | Equal ↦ (h.0, h.1)
      | Greater ↦ (h.0, valid_inserted key v is rows h.1)
    ]

pub valid_removed : (test : Bssid × Addr → Bool) (rows : List Row) → AreValid rows → AreValid (remove_entry test rows)
valid_removed test [] h = tt
valid_removed test (row ∷ rows) h =
    elim (test row.0) as (λ t. AreValid (cond t rows (row ∷ remove_entry test rows))) [ true ↦ h.1 | false ↦ (h.0, valid_removed test rows h.1) ]

-- a map made of rows has these rows
pub same_rows : (old : BTreeMap (Bssid × Addr) Station) → T (is_sorted station_cmp old.entries) → (new : BTreeMap (Bssid × Addr) Station) → IsFromIterResult station_cmp old.entries new → new.entries ≡ old.entries
same_rows old sorted new made =
    let rise = rising station_cmp old.entries sorted in
    btree_map_from_get station_total new old made.1 rise
    (λ q. made.0 q ∙ update_all_none (eq_by_cmp_equiv station_total) (eq_by_cmp station_cmp) (λ x y. refl) old.entries q (IsDistinct-from_sorted station_cmp (keys_of old.entries) rise)) station_exact

longer : {A : Type 0} (n : ℕ) → suc n ≡ 0 → A
longer n e = absurd (omega (arith, e))

one_less : (n m : ℕ) → suc n ≡ suc m → n ≡ m
one_less n m e = omega (arith, e)

equal_less : {A : Type 0} → Equal ≡ Less → A
equal_less e = cc

-- ---- the rows of a BSSID stand between those of two addresses

not_above : (x : ℕ) → is_le (nat_cmp 0 x) ≡ true
not_above zero = refl
not_above (suc x) = ap is_le (sym (nat_cmp_is 0 (suc x) Less (omega arith)))

not_below : (x : ℕ) → x < 256 → is_lt (nat_cmp 255 x) ≡ false
not_below x lt =
    elim (nat_cmp 255 x) as (λ r. nat_cmp 255 x ≡ r → is_lt r ≡ false) [
      | Less ↦ λ e.
          let same : 255 ≡ x = omega (arith, lt, le_from_is_le 255 x (ap is_le e)) in
          let tied : Equal ≡ nat_cmp 255 x = ap (nat_cmp 255) same in
          equal_less (tied ∙ e)
      | Equal ↦ λ e. refl
      | Greater ↦ λ e. refl
    ] refl

then_le : (r o : Ordering) → is_le r ≡ true → is_le o ≡ true → is_le (ordering_then r o) ≡ true
then_le Less o e f = refl
then_le Equal o e f = f
then_le Greater o e f = e

then_not_lt : (r o : Ordering) → is_lt r ≡ false → is_lt o ≡ false → is_lt (ordering_then r o) ≡ false
then_not_lt Less o e f = e
then_not_lt Equal o e f = f
then_not_lt Greater o e f = refl

least_bytes : (zeros bytes : List ℕ) → length zeros ≡ length bytes → AllByRecursion (λ z. z ≡ 0) zeros → is_le (slice_cmp nat_cmp zeros bytes) ≡ true
least_bytes [] [] same all = refl
least_bytes [] (b ∷ bytes) same all = refl
least_bytes (z ∷ zeros) [] same all = longer (length zeros) same
least_bytes (z ∷ zeros) (b ∷ bytes) same all =
    then_le (nat_cmp z b) _ (ap (λ n. is_le (nat_cmp n b)) all.0 ∙ not_above b) (least_bytes zeros bytes (one_less (length zeros) (length bytes) same) all.1)

greatest_bytes : (ones bytes : List ℕ) → length ones ≡ length bytes → AllByRecursion (λ z. z ≡ 255) ones → AllByRecursion (λ b. b < 256) bytes → is_lt (slice_cmp nat_cmp ones bytes) ≡ false
greatest_bytes [] [] same all small = refl
greatest_bytes [] (b ∷ bytes) same all small = longer (length bytes) (sym same)
greatest_bytes (z ∷ ones) [] same all small = refl
greatest_bytes (z ∷ ones) (b ∷ bytes) same all small =
    then_not_lt (nat_cmp z b) _ (ap (λ n. is_lt (nat_cmp n b)) all.0 ∙ not_below b small.0) (greatest_bytes ones bytes (one_less (length ones) (length bytes) same) all.1 small.1)

module _ (b : Bssid) (low high : Addr) (zeros : low.0 ≡ 0 ∷ 0 ∷ 0 ∷ 0 ∷ 0 ∷ 0 ∷ []) (ones : high.0 ≡ 255 ∷ 255 ∷ 255 ∷ 255 ∷ 255 ∷ 255 ∷ []) where
  from_low : (a : Addr) → IsAddr a → is_le (addr_cmp low a) ≡ true
  from_low a is = subst (λ l. is_le (slice_cmp nat_cmp l a.0) ≡ true) (sym zeros) (least_bytes (0 ∷ 0 ∷ 0 ∷ 0 ∷ 0 ∷ 0 ∷ []) a.0 (sym is.0) (refl, (refl, (refl, (refl, (refl, (refl, tt)))))))

  up_to_high : (a : Addr) → IsAddr a → is_lt (addr_cmp high a) ≡ false
  up_to_high a is =
      subst (λ l. is_lt (slice_cmp nat_cmp l a.0) ≡ false) (sym ones) (greatest_bytes (255 ∷ 255 ∷ 255 ∷ 255 ∷ 255 ∷ 255 ∷ []) a.0 (sym is.0) (refl, (refl, (refl, (refl, (refl, (refl, tt)))))) is.1)

  -- between these two
  abbrev is_between : Row → Bool
  is_between row = is_le (station_cmp (b, low) row.0) && not (is_lt (station_cmp (b, high) row.0))

  one_between : (row : Row) → IsAddr row.0.1 → is_between row ≡ is_station_row_of b row
  one_between row is =
      elim (bssid_cmp b row.0.0) as (λ r. (is_le (ordering_then r (addr_cmp low row.0.1)) && not (is_lt (ordering_then r (addr_cmp high row.0.1)))) ≡ is_eq r) [
        | Less ↦ refl
        | Equal ↦ λ i. from_low row.0.1 is i && not (up_to_high row.0.1 is i)
        | Greater ↦ refl
      ]

  pub between_is : (rows : List Row) → AreValid rows → filter is_between rows ≡ filter (is_station_row_of b) rows
  between_is [] h = refl
  between_is (row ∷ rows) h = λ i. cond (one_between row h.0 i) (row ∷ between_is rows h.1 i) (between_is rows h.1 i)

  -- the one is not above the other
  pub is_forward : is_gt (station_cmp (b, low) (b, high)) ≡ false
  is_forward =
      ap (λ r. is_gt (ordering_then r (addr_cmp low high))) (tied_itself bssid_total b)
      ∙ (λ i. is_gt (slice_cmp nat_cmp (zeros i) (ones i)))

-- ---- the first row of a part, and the first one above a station

pub front_is : (part rest : List Row) (r : Option (Bor (Bssid × Addr) × Bor Station)) → MatchOption r ((part ≡ []) × (rest ≡ [])) (λ x. part ≡ deref_pair x ∷ rest) → option_map deref_pair r ≡ slice_get part 0
front_is part rest None e = sym (ap (λ xs. slice_get xs 0) e.0)
front_is part rest (Some x) e = sym (ap (λ xs. slice_get xs 0) e)

not_greater : (r : Ordering) → is_gt r ≡ false → r ≢ Greater
not_greater r e g = cc

module _ (key : Bssid × Addr) (rows part : List Row) where
  abbrev pub IsBeyond : Bssid × Addr → Type 0
  IsBeyond q = (station_cmp key q ≡ Less) × ⊤

  abbrev pub value_at : Bssid × Addr → Option Station
  value_at q = lookup (is_at (station_cmp q)) rows

  pub above_of : IfSome (slice_get part 0) (λ e. IsBeyond e.0 × (value_at e.0 ≡ Some e.1))
      → ((q : Bssid × Addr) → IsBeyond q → IsSome (value_at q) → IfSome (slice_get part 0) (λ e. is_gt (station_cmp e.0 q) ≡ false))
      → (part ≡ [] → (q : Bssid × Addr) → IsBeyond q → value_at q ≡ None)
      → (rest : List Row) (r : Option (Bor (Bssid × Addr) × Bor Station)) → MatchOption r ((part ≡ []) × (rest ≡ [])) (λ x. part ≡ deref_pair x ∷ rest)
      → MatchOption (option_map deref_pair r) (NoneAbove station_total station_exact key rows) (IsAbove station_total station_exact key rows)
  above_of first least none rest None e = λ q v f l. none_is _ (find-lookup station_cmp q rows ∙ none e.0 q (l, tt)) (is_some_of _ v f)
  above_of first least none rest (Some x) e =
      let is : slice_get part 0 ≡ Some (deref_pair x) = ap (λ xs. slice_get xs 0) e in
      let here = subst (λ o. IfSome o (λ y. IsBeyond y.0 × (value_at y.0 ≡ Some y.1))) is first in
      record {
        entry = find-lookup station_cmp (deref_pair x).0 rows ∙ here.1;
        above = here.0.0;
        least = λ q v f l. not_greater _ (subst (λ o. IfSome o (λ y. is_gt (station_cmp y.0 q) ≡ false)) is (least q (l, tt) (is_some_of _ v (sym (find-lookup station_cmp q rows) ∙ f))));
      }

-- ---- tests and filters of a part

pub any_filtered : {X : Type 0} (p q : X → Bool) (xs : List X) → list_any q (filter p xs) ≡ list_any (λ x. p x && q x) xs
any_filtered p q [] = refl
any_filtered p q (x ∷ xs) =
    elim (p x) as (λ t. list_any q (cond t (x ∷ filter p xs) (filter p xs)) ≡ ((t && q x) || list_any (λ y. p y && q y) xs)) [
      | true ↦ ap (λ t. q x || t) (any_filtered p q xs)
      | false ↦ any_filtered p q xs
    ]

pub filter_filtered : {X : Type 0} (p q : X → Bool) (xs : List X) → filter q (filter p xs) ≡ filter (λ x. p x && q x) xs
filter_filtered p q [] = refl
filter_filtered p q (x ∷ xs) =
    elim (p x) as (λ t. filter q (cond t (x ∷ filter p xs) (filter p xs)) ≡ cond (t && q x) (x ∷ filter (λ y. p y && q y) xs) (filter (λ y. p y && q y) xs)) [
      | true ↦ ap (λ ys. cond (q x) (x ∷ ys) ys) (filter_filtered p q xs)
      | false ↦ filter_filtered p q xs
    ]
