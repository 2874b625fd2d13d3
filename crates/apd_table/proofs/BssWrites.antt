-- What a write into the row of a BSSID makes of the list rows and the policy rows.
use Rattle.std.proofs.Common.{◌≡◌, ℕ, suc, ◌+◌, Bool, true, false, cond, not, ◌&&◌, ◌||◌, List, [], ◌∷◌, Option, Some, None, Result, Ok, Err, OnOk, OnErr, IsSome, IfSome, inl, inr, refl, sym, ap, subst, ◌∙◌, T, arith, slice_index_or, slice_set}
use Rattle.apd_table.proofs.Words.{Accept, Addr, Bss, BssState, Bssid, Deny, Equal, FinMap, Greater, IsAntisymmetric, IsTotalOrder, Less, Members, Ordering, Policy, SetOf, Station, StationNumber, Which, addr_cmp, after_row, at_row, bssid_cmp, bssid_exact, bssid_total, contains, cursor_of, cursors_with, eq_by_cmp, find-place, find-put, from_sorted, get-empty, get-insert, has, is_eq, is_list_row_of, is_listed_in, is_some, is_sorted, list_cmp, list_exact, list_rows, list_total, members_of, members_under, no_lists, no_members, none_given, none_is, offset, one_or_apart, option_map, parts_of, place, policy_of, policy_rows, put-place, put_after, put_at, same_map, same_station_number, slice_get, sorted_put_at, state_of_rows, tied, value_at, which_cmp, with_added, with_bss, with_cleared, with_cursor, with_policy, with_removed, with_row}
use Rattle.std.specs.FinMap as map
use Rattle.std.specs.FinMap.{find}
use Rattle.std.proofs.lemmas.Option.{get_or_from_slice_get}
use Rattle.apd_base.specs.Rows.{by_order}
use Rattle.apd_table.proofs.BssLemmas.{get-parts_of, contains-list_rows}
use Rattle.apd_table.proofs.ListSets.{same_set, insert_here, insert_elsewhere, remove_here, remove_elsewhere, clear_here, clear_elsewhere, has_added, has_removed, has_cleared}

one_more : (i : ℕ) → 1 + i ≡ suc i
one_more i = omega arith

err_ok : {A : Type 0} (i j : ℕ) → ◌≡◌ {A = Result ℕ ℕ} (Err i) (Ok j) → A
err_ok i j e = cc

same_ok : (i j : ℕ) → ◌≡◌ {A = Result ℕ ℕ} (Ok i) (Ok j) → i ≡ j
same_ok i j e = cc

-- the entry at the place of a key
module _ {K X : Type 0} {R : K → K → Ordering} (o : IsTotalOrder R) (exact : IsAntisymmetric R) where
  abbrev pub EntryAt : K → List (K × X) → ℕ → Type 0
  EntryAt k es i = (x : X) × (slice_get es i ≡ Some (k, x)) × (find R k es ≡ Some x)

  deeper : (k : K) (e : K × X) (es : List (K × X)) → R k e.0 ≡ Greater → (p : Result ℕ ℕ) → ((j : ℕ) → p ≡ Ok j → EntryAt k es j) → (i : ℕ) → offset 1 p ≡ Ok i → EntryAt k (e ∷ es) i
  deeper k e es g (Err j) rest i is = err_ok (1 + j) i is
  deeper k e es g (Ok j) rest i is =
      let found = rest j refl in
      (found.0, ap (slice_get (e ∷ es)) (sym (same_ok (1 + j) i is) ∙ one_more j) ∙ found.1, ap (λ r. cond (is_eq r) (Some e.1) (find R k es)) g ∙ found.2)

  pub entry_at : (k : K) (es : List (K × X)) (i : ℕ) → place R k es ≡ Ok i → EntryAt k es i
  entry_at k [] i is = err_ok 0 i is
  entry_at k (e ∷ es) i is =
      elim (R k e.0) as (λ r. R k e.0 ≡ r → by_order r (Err 0) (Ok 0) (offset 1 (place R k es)) ≡ Ok i → EntryAt k (e ∷ es) i) [
        | Less ↦ λ p q. err_ok 0 i q
        | Equal ↦ λ p q. (
          e.1,
          ap (slice_get (e ∷ es)) (sym (same_ok 0 i q)) ∙ ap (λ x. Some (x, e.1)) (sym (exact k e.0 p)),
          ap (λ x. cond (eq_by_cmp R x e.0) (Some e.1) (find R x es)) (exact k e.0 p) ∙ ap (λ t. cond t (Some e.1) (find R e.0 es)) (tied o exact e.0),
        )
        | Greater ↦ λ p q. deeper k e es p (place R k es) (λ j is'. entry_at k es j is') i q
      ] refl is

  pub absent_at : (k : K) (es : List (K × X)) → T (is_sorted R es) → (i : ℕ) → place R k es ≡ Err i → find R k es ≡ None
  absent_at k es h i is = find-place o k es h ∙ ap (value_at es) is

abbrev pub Row : Type 0
Row = Bssid × Bss

map_cond : {V : Type 0} (part : Bss → V) (t : Bool) (y : Bss) (r : Option Bss) → option_map part (cond t (Some y) r) ≡ cond t (Some (part y)) (option_map part r)
map_cond part true y r = refl
map_cond part false y r = refl

listed_cond : (t : Bool) (y : Bss) (r : Option Bss) (w : Which) (a : Addr) → is_listed_in (cond t (Some y) r) w a ≡ cond t (has y.lists w a) (is_listed_in r w a)
listed_cond true y r w a = refl
listed_cond false y r w a = refl

module _ (xs : List Row) (sorted : T (is_sorted bssid_cmp xs)) (b : Bssid) where
  abbrev pub written : Bss → List Row
  written y = put_at xs b y (place bssid_cmp b xs)

  pub sorted_written : (y : Bss) → T (is_sorted bssid_cmp (written y))
  sorted_written y = sorted_put_at bssid_total bssid_exact b y xs sorted

  find_written : (y : Bss) (c : Bssid) → find bssid_cmp c (written y) ≡ cond (eq_by_cmp bssid_cmp c b) (Some y) (find bssid_cmp c xs)
  find_written y c = ap (find bssid_cmp c) (sym (put-place bssid_total bssid_exact b y xs)) ∙ find-put bssid_cmp bssid_total c b y xs

  -- one part of each row
  module _ {V : Type 0} (part : Bss → V) where
    abbrev olds : FinMap bssid_cmp V
    olds = from_sorted (parts_of part xs)

    get_written : (y : Bss) (c : Bssid) → map.get (from_sorted {R = bssid_cmp} (parts_of part (written y))) c ≡ cond (eq_by_cmp bssid_cmp c b) (Some (part y)) (map.get olds c)
    get_written y c =
        get-parts_of part (written y) (sorted_written y) c ∙ ap (option_map part) (find_written y c) ∙ map_cond part (eq_by_cmp bssid_cmp c b) y (find bssid_cmp c xs)
        ∙ ap (cond (eq_by_cmp bssid_cmp c b) (Some (part y))) (sym (get-parts_of part xs sorted c))

    -- that of the BSSID itself
    pub part_is : (x : Bss) → find bssid_cmp b xs ≡ Some x → map.get olds b ≡ Some (part x)
    part_is x found = get-parts_of part xs sorted b ∙ ap (option_map part) found

    pub part_absent : find bssid_cmp b xs ≡ None → map.get olds b ≡ None
    part_absent none = get-parts_of part xs sorted b ∙ ap (option_map part) none

    pub parts_set : (y : Bss) → from_sorted {R = bssid_cmp} (parts_of part (written y)) ≡ map.insert olds b (part y)
    parts_set y = same_map bssid_total bssid_exact _ _ (λ c. get_written y c ∙ sym (get-insert bssid_total olds b (part y) c))

    pub parts_kept : (x : Bss) → find bssid_cmp b xs ≡ Some x → (y : Bss) → part y ≡ part x → from_sorted {R = bssid_cmp} (parts_of part (written y)) ≡ olds
    parts_kept x found y same = same_map bssid_total bssid_exact _ _ (λ c. get_written y c ∙ elim (one_or_apart bssid_total bssid_exact c b) [
      | inl e ↦ ap (λ t. cond t (Some (part y)) (map.get olds c)) (ap (λ d. eq_by_cmp bssid_cmp d b) e ∙ tied bssid_total bssid_exact b)
          ∙ ap Some same ∙ sym (ap (map.get olds) e ∙ part_is x found)
      | inr apart ↦ ap (λ t. cond t (Some (part y)) (map.get olds c)) apart
    ])

  contains_written : (y : Bss) (c : Bssid) (w : Which) (a : Addr) → contains (list_rows (written y)) (c, w, a) ≡ cond (eq_by_cmp bssid_cmp c b) (has y.lists w a) (contains (list_rows xs) (c, w, a))
  contains_written y c w a =
      contains-list_rows (written y) c w a (sorted_written y) ∙ ap (λ r. is_listed_in r w a) (find_written y c) ∙ listed_cond (eq_by_cmp bssid_cmp c b) y (find bssid_cmp c xs) w a
      ∙ ap (cond (eq_by_cmp bssid_cmp c b) (has y.lists w a)) (sym (contains-list_rows xs c w a sorted))

  -- the list rows are these where at the BSSID they are those of the row written, and elsewhere the old ones
  pub lists_become : (y : Bss) (l : SetOf list_cmp) → ((v : Which) (d : Addr) → contains l (b, v, d) ≡ has y.lists v d)
      → ((c : Bssid) → eq_by_cmp bssid_cmp c b ≡ false → (v : Which) (d : Addr) → contains l (c, v, d) ≡ contains (list_rows xs) (c, v, d)) → list_rows (written y) ≡ l
  lists_become y l here elsewhere = same_set list_total list_exact (list_rows (written y)) l (λ q.
      contains_written y q.0 q.1 q.2 ∙ elim (one_or_apart bssid_total bssid_exact q.0 b) [
        | inl e ↦ ap (λ t. cond t (has y.lists q.1 q.2) (contains (list_rows xs) q)) (ap (λ c. eq_by_cmp bssid_cmp c b) e ∙ tied bssid_total bssid_exact b)
            ∙ sym (here q.1 q.2) ∙ ap (λ c. contains l (c, q.1, q.2)) (sym e)
        | inr apart ↦ ap (λ t. cond t (has y.lists q.1 q.2) (contains (list_rows xs) q)) apart ∙ sym (elsewhere q.0 apart q.1 q.2)
      ])

  -- a new row, with empty lists
  module _ (none : find bssid_cmp b xs ≡ None) where
    not_listed : (v : Which) (d : Addr) → contains (list_rows xs) (b, v, d) ≡ false
    not_listed v d = contains-list_rows xs b v d sorted ∙ ap (λ r. is_listed_in r v d) none

    pub lists_new : (y : Bss) → ((v : Which) (d : Addr) → has y.lists v d ≡ false) → list_rows (written y) ≡ list_rows xs
    lists_new y empty = lists_become y (list_rows xs) (λ v d. not_listed v d ∙ sym (empty v d)) (λ c apart v d. refl)

    -- without a row there is nothing to take out
    and-false : (t u : Bool) → u ≡ false → (t && u) ≡ u
    and-false true u e = refl
    and-false false u e = sym e

    same_lists : (l : SetOf list_cmp) → ((v : Which) (d : Addr) → contains l (b, v, d) ≡ contains (list_rows xs) (b, v, d))
        → ((c : Bssid) → eq_by_cmp bssid_cmp c b ≡ false → (v : Which) (d : Addr) → contains l (c, v, d) ≡ contains (list_rows xs) (c, v, d)) → list_rows xs ≡ l
    same_lists l here elsewhere = same_set list_total list_exact (list_rows xs) l (λ q.
        elim (one_or_apart bssid_total bssid_exact q.0 b) [
          | inl e ↦ ap (λ c. contains (list_rows xs) (c, q.1, q.2)) e ∙ sym (here q.1 q.2) ∙ ap (λ c. contains l (c, q.1, q.2)) (sym e)
          | inr apart ↦ sym (elsewhere q.0 apart q.1 q.2)
        ])

    pub nothing_removed : (w : Which) (a : Addr) → list_rows xs ≡ map.remove (list_rows xs) (b, w, a)
    nothing_removed w a = same_lists _ (λ v d. remove_here (list_rows xs) b w a v d ∙ and-false _ _ (not_listed v d)) (λ c apart v d. remove_elsewhere (list_rows xs) b w c apart v d a)

    pub nothing_cleared : (w : Which) → list_rows xs ≡ map.retain_keys (list_rows xs) (λ row. not (is_list_row_of b w row))
    nothing_cleared w = same_lists _ (λ v d. clear_here (list_rows xs) b w v d ∙ and-false _ _ (not_listed v d)) (λ c apart v d. clear_elsewhere (list_rows xs) b w c apart v d)

  -- the row there was
  module _ (x : Bss) (found : find bssid_cmp b xs ≡ Some x) where
    pub listed_here : (v : Which) (d : Addr) → contains (list_rows xs) (b, v, d) ≡ has x.lists v d
    listed_here v d = contains-list_rows xs b v d sorted ∙ ap (λ r. is_listed_in r v d) found

    -- a row with the same lists
    pub lists_kept : (y : Bss) → y.lists ≡ x.lists → list_rows (written y) ≡ list_rows xs
    lists_kept y same = lists_become y (list_rows xs) (λ v d. listed_here v d ∙ ap (λ lists. has lists v d) (sym same)) (λ c apart v d. refl)

-- the rows after a write at the place of a BSSID
pub write_is : (xs : List Row) (b : Bssid) (at : ℕ) (is : Ok at ≡ place bssid_cmp b xs) (write : Bss → Bss) (x : Bss) → slice_get xs at ≡ Some (b, x)
    → (ys : List Row) → ((d : Row) → ys ≡ slice_set xs at (at_row write (slice_index_or xs at d))) → ys ≡ put_at xs b (write x) (place bssid_cmp b xs)
write_is xs b at is write x entry ys h =
    h (b, x) ∙ ap (λ row. slice_set xs at (at_row write row)) (get_or_from_slice_get xs at (b, x) (b, x) entry) ∙ ap (put_at xs b (write x)) is

none_has : (v : Which) (d : Addr) → has no_lists v d ≡ false
none_has Accept d = ap is_some (get-empty addr_cmp d)
none_has Deny d = ap is_some (get-empty addr_cmp d)

-- the states that these writes leave
abbrev pub policies_with : Bssid → Policy → BssState → BssState
policies_with b p s = with_bss s b p

abbrev pub cursors_at : Bssid → StationNumber → BssState → BssState
cursors_at b last s = record s { cursors = map.insert s.cursors b last }

abbrev pub members_with : Option Station → Option Station → Bssid → BssState → BssState
members_with old new b s = record s { members = after_row old new b s.members }

abbrev pub lists_with : Bssid → Which → Addr → BssState → BssState
lists_with b w a s = record s { lists = map.insert s.lists (b, w, a) tt }

abbrev pub lists_without : Bssid → Which → Addr → BssState → BssState
lists_without b w a s = record s { lists = map.remove s.lists (b, w, a) }

abbrev pub lists_clear : Bssid → Which → BssState → BssState
lists_clear b w s = record s { lists = map.retain_keys s.lists (λ row. not (is_list_row_of b w row)) }

module _ (xs : List Row) (sorted : T (is_sorted bssid_cmp xs)) (b : Bssid) where
  abbrev policies : FinMap bssid_cmp Policy
  policies = from_sorted (policy_rows xs)

  abbrev cursors : FinMap bssid_cmp StationNumber
  cursors = from_sorted (parts_of cursor_of xs)

  abbrev members : FinMap bssid_cmp Members
  members = from_sorted (parts_of members_of xs)

  -- a new row, which has its policy alone
  pub state_new : find bssid_cmp b xs ≡ None → (y : Bss) → y.cursor.number ≡ 0 → y.lists ≡ no_lists → y.members ≡ no_members
      → state_of_rows (put_at xs b y (place bssid_cmp b xs)) ≡ policies_with b y.policy (state_of_rows xs)
  state_new none y zero empty alone =
      let without = sym (part_absent xs sorted b policy_of none) in
      λ i. record {
        lists = lists_new xs sorted b none y (λ v d. ap (λ lists. has lists v d) empty ∙ none_has v d) i;
        policies = parts_set xs sorted b policy_of y i;
        cursors = (parts_set xs sorted b cursor_of y ∙ ap (map.insert cursors b) (same_station_number y.cursor none_given zero) ∙ ap (λ o. cursors_with o cursors b) without) i;
        members = (parts_set xs sorted b members_of y ∙ ap (map.insert members b) alone ∙ ap (λ o. members_under o members b) without) i;
      }

  module _ (x : Bss) (found : find bssid_cmp b xs ≡ Some x) where
    pub state_set : (p : Policy) → state_of_rows (put_at xs b (with_policy p x) (place bssid_cmp b xs)) ≡ policies_with b p (state_of_rows xs)
    state_set p =
        let y = with_policy p x in
        let old = sym (part_is xs sorted b policy_of x found) in
        λ i. record {
          lists = lists_kept xs sorted b x found y refl i;
          policies = parts_set xs sorted b policy_of y i;
          cursors = (parts_kept xs sorted b cursor_of x found y refl ∙ ap (λ o. cursors_with o cursors b) old) i;
          members = (parts_kept xs sorted b members_of x found y refl ∙ ap (λ o. members_under o members b) old) i;
        }

    -- the identifier that was given last
    pub state_cursor : (last : StationNumber) → state_of_rows (put_at xs b (with_cursor last x) (place bssid_cmp b xs)) ≡ cursors_at b last (state_of_rows xs)
    state_cursor last = λ i. record {
      lists = lists_kept xs sorted b x found (with_cursor last x) refl i;
      policies = parts_kept xs sorted b policy_of x found (with_cursor last x) refl i;
      cursors = parts_set xs sorted b cursor_of (with_cursor last x) i;
      members = parts_kept xs sorted b members_of x found (with_cursor last x) refl i;
    }

    -- what is kept of the stations
    pub state_row : (old new : Option Station) → state_of_rows (put_at xs b (with_row old new x) (place bssid_cmp b xs)) ≡ members_with old new b (state_of_rows xs)
    state_row old new = λ i. record {
      lists = lists_kept xs sorted b x found (with_row old new x) refl i;
      policies = parts_kept xs sorted b policy_of x found (with_row old new x) refl i;
      cursors = parts_kept xs sorted b cursor_of x found (with_row old new x) refl i;
      members = (parts_set xs sorted b members_of (with_row old new x) ∙ ap (put_after old new b members) (sym (part_is xs sorted b members_of x found))) i;
    }

    -- a write of the lists alone
    state_listed : (y : Bss) → y.policy ≡ x.policy → y.cursor ≡ x.cursor → y.members ≡ x.members → (l : SetOf list_cmp) → ((v : Which) (d : Addr) → contains l (b, v, d) ≡ has y.lists v d)
        → ((c : Bssid) → eq_by_cmp bssid_cmp c b ≡ false → (v : Which) (d : Addr) → contains l (c, v, d) ≡ contains (list_rows xs) (c, v, d))
        → state_of_rows (put_at xs b y (place bssid_cmp b xs)) ≡ record (state_of_rows xs) { lists = l }
    state_listed y policy cursor kept l here elsewhere = λ i. record {
      lists = lists_become xs sorted b y l here elsewhere i;
      policies = parts_kept xs sorted b policy_of x found y policy i;
      cursors = parts_kept xs sorted b cursor_of x found y cursor i;
      members = parts_kept xs sorted b members_of x found y kept i;
    }

    abbrev listed : (v : Which) (d : Addr) → contains (list_rows xs) (b, v, d) ≡ has x.lists v d
    listed = listed_here xs sorted b x found

    pub state_added : (w : Which) (a : Addr) → state_of_rows (put_at xs b (with_added w a x) (place bssid_cmp b xs)) ≡ lists_with b w a (state_of_rows xs)
    state_added w a = state_listed (with_added w a x) refl refl refl (map.insert (list_rows xs) (b, w, a) tt)
        (λ v d. insert_here (list_rows xs) b w a v d ∙ ap (λ t. (eq_by_cmp which_cmp v w && eq_by_cmp addr_cmp d a) || t) (listed v d) ∙ sym (has_added x.lists a d w v))
        (λ c apart v d. insert_elsewhere (list_rows xs) b w c apart v d a)

    pub state_removed : (w : Which) (a : Addr) → state_of_rows (put_at xs b (with_removed w a x) (place bssid_cmp b xs)) ≡ lists_without b w a (state_of_rows xs)
    state_removed w a = state_listed (with_removed w a x) refl refl refl (map.remove (list_rows xs) (b, w, a))
        (λ v d. remove_here (list_rows xs) b w a v d ∙ ap (λ t. not (eq_by_cmp which_cmp v w && eq_by_cmp addr_cmp d a) && t) (listed v d) ∙ sym (has_removed x.lists a d w v))
        (λ c apart v d. remove_elsewhere (list_rows xs) b w c apart v d a)

    pub state_cleared : (w : Which) → state_of_rows (put_at xs b (with_cleared w x) (place bssid_cmp b xs)) ≡ lists_clear b w (state_of_rows xs)
    state_cleared w = state_listed (with_cleared w x) refl refl refl (map.retain_keys (list_rows xs) (λ row. not (is_list_row_of b w row)))
        (λ v d. clear_here (list_rows xs) b w v d ∙ ap (λ t. not (eq_by_cmp which_cmp w v) && t) (listed v d) ∙ sym (has_cleared x.lists w v d))
        (λ c apart v d. clear_elsewhere (list_rows xs) b w c apart v d)

  pub same_removed : find bssid_cmp b xs ≡ None → (w : Which) (a : Addr) → state_of_rows xs ≡ lists_without b w a (state_of_rows xs)
  same_removed none w a = λ i. record { lists = nothing_removed xs sorted b none w a i; policies = policies; cursors = cursors; members = members }

  pub same_cleared : find bssid_cmp b xs ≡ None → (w : Which) → state_of_rows xs ≡ lists_clear b w (state_of_rows xs)
  same_cleared none w = λ i. record { lists = nothing_cleared xs sorted b none w i; policies = policies; cursors = cursors; members = members }

  pub same_members : find bssid_cmp b xs ≡ None → (old new : Option Station) → state_of_rows xs ≡ members_with old new b (state_of_rows xs)
  same_members none old new = λ i. record {
    lists = list_rows xs;
    policies = policies;
    cursors = cursors;
    members = ap (put_after old new b members) (sym (part_absent xs sorted b members_of none)) i;
  }

  -- a write at the place where the BSSID's row is
  module _ (at : ℕ) (is : Ok at ≡ place bssid_cmp b xs) (write : Bss → Bss) (ys : List Row) where
    abbrev pub IsWrite : Type 0
    IsWrite = (d : Row) → ys ≡ slice_set xs at (at_row write (slice_index_or xs at d))

    abbrev pub row : EntryAt bssid_total bssid_exact b xs at
    row = entry_at bssid_total bssid_exact b xs at (sym is)

    pub rows_are : IsWrite → ys ≡ put_at xs b (write (row.0)) (place bssid_cmp b xs)
    rows_are h = write_is xs b at is write row.0 row.1 ys h

    -- and the state after it
    pub state_after : IsWrite → (f : BssState → BssState) → ((x : Bss) → find bssid_cmp b xs ≡ Some x → state_of_rows (put_at xs b (write x) (place bssid_cmp b xs)) ≡ f (state_of_rows xs))
        → (s : BssState) → state_of_rows xs ≡ s → state_of_rows ys ≡ f s
    state_after h f is_f s view = ap state_of_rows (rows_are h) ∙ is_f row.0 row.2 ∙ ap f view

    pub sorted_after : IsWrite → T (is_sorted bssid_cmp ys)
    sorted_after h = subst (λ zs. T (is_sorted bssid_cmp zs)) (sym (rows_are h)) (sorted_written xs sorted b (write row.0))

    -- a write that may lack memory
    pub sorted_either : {E : Type 0} (r : Result (Unit {0}) E) → OnOk r IsWrite → OnErr r (ys ≡ xs) → T (is_sorted bssid_cmp ys)
    sorted_either (Ok u) ok err = sorted_after ok
    sorted_either (Err e) ok err = subst (λ zs. T (is_sorted bssid_cmp zs)) (sym err) sorted

  pub added_on_ok : {E : Type 0} (at : ℕ) (is : Ok at ≡ place bssid_cmp b xs) (w : Which) (a : Addr) (ys : List Row) (r : Result (Unit {0}) E)
      → OnOk r (IsWrite at is (with_added w a) ys) → OnOk r (state_of_rows ys ≡ lists_with b w a (state_of_rows xs))
  added_on_ok at is w a ys (Ok u) ok =
      state_after at is (with_added w a) ys ok (lists_with b w a) (λ x found. state_added x found w a) (state_of_rows xs) refl
  added_on_ok at is w a ys (Err e) ok = tt

  -- what the row's own list has, the list rows have
  pub has_row : (at : ℕ) (is : Ok at ≡ place bssid_cmp b xs) (w : Which) (a : Addr) → contains (list_rows xs) (b, w, a) ≡ true → (d : Row) → has (slice_index_or xs at d).1.lists w a ≡ true
  has_row at is w a h d =
      let e = entry_at bssid_total bssid_exact b xs at (sym is) in
      ap (λ (r : Row). has r.1.lists w a) (get_or_from_slice_get xs at (b, e.0) d e.1) ∙ sym (contains-list_rows xs b w a sorted ∙ ap (λ r. is_listed_in r w a) e.2) ∙ h

  -- what is kept of the stations stands in the row
  pub row_members : (at : ℕ) (is : Ok at ≡ place bssid_cmp b xs) (P : Members → Type 0) → IfSome (map.get members b) P → (d : Row) → P ((slice_index_or xs at d).1.members)
  row_members at is P h d =
      let e = entry_at bssid_total bssid_exact b xs at (sym is) in
      subst (λ (r : Row). P r.1.members) (sym (get_or_from_slice_get xs at (b, e.0) d e.1)) (subst (λ (o : Option Members). IfSome o P) (part_is xs sorted b members_of e.0 e.2) h)

  -- a BSSID with a policy has a row
  pub has_place : {A : Type 0} (at : ℕ) → Err at ≡ place bssid_cmp b xs → IsSome (map.get policies b) → A
  has_place at is h = none_is _ (part_absent xs sorted b policy_of (absent_at bssid_total bssid_exact b xs sorted at (sym is))) h

-- a new row in its place
pub sorted_new : (xs : List Row) (sorted : T (is_sorted bssid_cmp xs)) (b : Bssid) (at : ℕ) → Err at ≡ place bssid_cmp b xs → (y : Bss) (ys : List Row) → ys ≡ put_at xs b y (Err at) → T (is_sorted bssid_cmp ys)
sorted_new xs sorted b at is y ys h = subst (λ zs. T (is_sorted bssid_cmp zs)) (sym (h ∙ ap (put_at xs b y) is)) (sorted_written xs sorted b y)
