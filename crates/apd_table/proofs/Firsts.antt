-- The first row of a BSSID among rows in order is that of its least address, and the first row above a station,
-- where it is one of the BSSID, that of its least address above.
use Rattle.std.proofs.Common.{◌≡◌, ◌≢◌, true, false, cond, List, [], ◌∷◌, Option, Some, None, MatchOption, IsSome, IfSome, IfNone, refl, sym, ap, subst, ◌∙◌, T, filter}
use Rattle.apd_table.proofs.Words.{Addr, Bssid, Equal, Greater, IsAbove, IsLeast, Less, NoneAbove, Ordering, Station, addr_cmp, address_and_station, bssid_cmp, bssid_total, eq_by_cmp, found_head, from_sorted, get-from_sorted, head_least, if_row_of, is_eq, is_some_of, is_sorted, is_sorted_tail, option_map, ordering_reverse, ordering_then, same_bssid, slice_get, station_cmp, station_exact, station_total, tied_itself}
use Rattle.std.specs.FinMap as map
use Rattle.std.specs.FinMap.{find}
use Rattle.apd_acl.specs.Least.{IsLeastAbove}
use Rattle.apd_table.specs.Rows.{is_station_row_of}
use Rattle.apd_base.proofs.Cases.{value_of}

abbrev pub Row : Type 0
Row = (Bssid × Addr) × Station

-- the first row of a BSSID
abbrev pub first_of : Bssid → List Row → Option (Addr × Station)
first_of b rows = option_map address_and_station (slice_get (filter (is_station_row_of b) rows) 0)

is_eq-then : (r o : Ordering) → is_eq r ≡ false → is_eq (ordering_then r o) ≡ false
is_eq-then Less o e = refl
is_eq-then Equal o e = cc
is_eq-then Greater o e = refl

-- a row of another BSSID is passed over
skip : (b : Bssid) (c : Addr) (row : Row) (rows : List Row) → eq_by_cmp bssid_cmp b row.0.0 ≡ false → find station_cmp (b, c) (row ∷ rows) ≡ find station_cmp (b, c) rows
skip b c row rows ne = ap (λ t. cond t (Some row.1) (find station_cmp (b, c) rows)) (is_eq-then (bssid_cmp b row.0.0) (addr_cmp c row.0.1) ne)

-- at one BSSID the addresses decide
at_bss : (b : Bssid) (a c : Addr) → station_cmp (b, a) (b, c) ≡ addr_cmp a c
at_bss b a c = ap (λ r. ordering_then r (addr_cmp a c)) (tied_itself bssid_total b)

-- the row that is first, in order
abbrev Least : Bssid → Addr → Station → List Row → Type 0
Least b a v rows = (find station_cmp (b, a) rows ≡ Some v) × ((c : Addr) (w : Station) → find station_cmp (b, c) rows ≡ Some w → addr_cmp a c ≢ Greater)

kept : (b : Bssid) (row : Row) (rows : List Row) → is_station_row_of b row ≡ false → (r : Option (Addr × Station)) → MatchOption r ((c : Addr) → find station_cmp (b, c) rows ≡ None) (λ x. Least b x.0 x.1 rows)
    → MatchOption r ((c : Addr) → find station_cmp (b, c) (row ∷ rows) ≡ None) (λ x. Least b x.0 x.1 (row ∷ rows))
kept b row rows ne None none = λ c. skip b c row rows ne ∙ none c
kept b row rows ne (Some x) least = (skip b x.0 row rows ne ∙ least.0, λ c w f. least.1 c w (sym (skip b c row rows ne) ∙ f))

first_least : (b : Bssid) (rows : List Row) → T (is_sorted station_cmp rows) → MatchOption (first_of b rows) ((c : Addr) → find station_cmp (b, c) rows ≡ None) (λ x. Least b x.0 x.1 rows)
first_least b [] h = λ c. refl
first_least b (row ∷ rows) h =
    let rest = first_least b rows (is_sorted_tail station_total row rows h) in
    elim (is_station_row_of b row) as (λ t. is_station_row_of b row ≡ t → MatchOption (option_map address_and_station (slice_get (cond t (row ∷ filter (is_station_row_of b) rows) (filter (is_station_row_of b) rows)) 0)) ((c : Addr) → find station_cmp (b, c) (row ∷ rows) ≡ None) (λ x. Least b x.0 x.1 (row ∷ rows))) [
      | true ↦ λ t.
          let key : ◌≡◌ {A = Bssid × Addr} (b, row.0.1) row.0 = λ i. (same_bssid row.0.0 b t i, row.0.1) in (
            ap (λ k. find station_cmp k (row ∷ rows)) key ∙ found_head station_total station_exact row rows,
            λ c w f. subst (λ r. r ≢ Greater) (ap (λ k. station_cmp k (b, c)) (sym key) ∙ at_bss b row.0.1 c) (head_least station_total station_exact row rows h (b, c) w f),
          )
      | false ↦ λ t. kept b row rows t (first_of b rows) rest
    ] refl

-- what follows of what is found, and where nothing is
some_of : {X : Type 0} (N : Type 0) (S T : X → Type 0) (r : Option X) → MatchOption r N S → ((x : X) → S x → T x) → IfSome r T
some_of N S T None m f = tt
some_of N S T (Some x) m f = f x m

none_of : {X : Type 0} (N M : Type 0) (S : X → Type 0) (r : Option X) → MatchOption r N S → (N → M) → IfNone r M
none_of N M S None m f = f m
none_of N M S (Some x) m f = tt

-- what the map of these rows has
module _ (b : Bssid) (rows : List Row) (h : T (is_sorted station_cmp rows)) where
  abbrev pub at : Addr → Option Station
  at c = map.get (from_sorted {R = station_cmp} rows) (b, c)

  at_is : (c : Addr) → at c ≡ find station_cmp (b, c) rows
  at_is c = get-from_sorted station_cmp rows (b, c) h

  found : (c : Addr) → IsSome (at c) → (x : Station) × (find station_cmp (b, c) rows ≡ Some x)
  found c s = (let v = value_of (at c) s in (v.0, sym (at_is c) ∙ v.1))

  abbrev Absent : Type 0
  Absent = (c : Addr) → find station_cmp (b, c) rows ≡ None

  abbrev First : Addr × Station → Type 0
  First x = Least b x.0 x.1 rows

  module _ (r : Option (Addr × Station)) (is : r ≡ first_of b rows) where
    least_of : MatchOption r Absent First
    least_of = subst (λ o. MatchOption o Absent First) (sym is) (first_least b rows h)

    pub first_is_least : IfSome r (λ x. IsLeast (λ c. IsSome (at c)) x.0)
    first_is_least = some_of Absent First (λ x. IsLeast (λ c. IsSome (at c)) x.0) r least_of
        (λ x m. record { has = is_some_of (at x.0) x.1 (at_is x.0 ∙ m.0); least = λ c s. (let v = found c s in m.1 c v.0 v.1) })

    pub first_is_row : IfSome r (λ x. at x.0 ≡ Some x.1)
    first_is_row = some_of Absent First (λ x. at x.0 ≡ Some x.1) r least_of (λ x m. at_is x.0 ∙ m.0)

    pub first_is_none : IfNone r ((c : Addr) → at c ≡ None)
    first_is_none = none_of Absent ((c : Addr) → at c ≡ None) First r least_of (λ m c. at_is c ∙ m c)

less_then : (r q : Ordering) → ordering_then r q ≡ Less → is_eq r ≡ false → r ≡ Less
less_then Less q e n = refl
less_then Equal q e n = cc
less_then Greater q e n = e

greater_then : (r q : Ordering) → r ≡ Greater → ordering_then r q ≡ Greater
greater_then r q e = ap (λ o. ordering_then o q) e

-- the next row
module _ (b : Bssid) (a : Addr) (rows : List Row) (h : T (is_sorted station_cmp rows)) where
  abbrev pub Above : Option Row → Type 0
  Above r = MatchOption r (NoneAbove station_total station_exact (b, a) rows) (IsAbove station_total station_exact (b, a) rows)

  abbrev Next : Addr × Station → Type 0
  Next x = (at b rows h x.0 ≡ Some x.1) × IsLeastAbove a (λ c. IsSome (at b rows h c)) x.0

  abbrev NoNext : Type 0
  NoNext = (c : Addr) → IsSome (at b rows h c) → addr_cmp a c ≢ Less

  -- a row of another BSSID above the station stands behind all of this BSSID
  beyond : (e : Row) → is_station_row_of b e ≡ false → IsAbove station_total station_exact (b, a) rows e → NoNext
  beyond e other is c s l =
      let v = found b rows h c s in
      let above : bssid_cmp b e.0.0 ≡ Less = less_then (bssid_cmp b e.0.0) (addr_cmp a e.0.1) is.above other in
      let below : bssid_cmp e.0.0 b ≡ Greater = bssid_total.antisymm e.0.0 b ∙ ap ordering_reverse above in
      is.least (b, c) v.0 v.1 (at_bss b a c ∙ l) (greater_then (bssid_cmp e.0.0 b) (addr_cmp e.0.1 c) below)

  next_row : (e : Row) → is_station_row_of b e ≡ true → IsAbove station_total station_exact (b, a) rows e → Next (e.0.1, e.1)
  next_row e mine is =
      let key : ◌≡◌ {A = Bssid × Addr} e.0 (b, e.0.1) = λ i. (sym (same_bssid e.0.0 b mine) i, e.0.1) in
      let row : find station_cmp (b, e.0.1) rows ≡ Some e.1 = ap (λ k. find station_cmp k rows) (sym key) ∙ is.entry in (
        at_is b rows h e.0.1 ∙ row,
        record {
          has = (is_some_of (at b rows h e.0.1) e.1 (at_is b rows h e.0.1 ∙ row), sym (ap (station_cmp (b, a)) key ∙ at_bss b a e.0.1) ∙ is.above);
          least = λ c p. (let v = found b rows h c p.0 in subst (λ r. r ≢ Greater) (ap (λ k. station_cmp k (b, c)) key ∙ at_bss b e.0.1 c) (is.least (b, c) v.0 v.1 (at_bss b a c ∙ p.1)));
        },
      )

  next_of : (r : Option Row) → Above r → MatchOption (if_row_of b r) NoNext Next
  next_of None none = λ c s l. (let v = found b rows h c s in none (b, c) v.0 v.1 (at_bss b a c ∙ l))
  next_of (Some e) is =
      elim (is_station_row_of b e) as (λ t. is_station_row_of b e ≡ t → MatchOption (cond t (Some (e.0.1, e.1)) None) NoNext Next) [ true ↦ λ t. next_row e t is | false ↦ λ t. beyond e t is ] refl

  module _ (found : Option Row) (above : Above found) (r : Option (Addr × Station)) (gives : r ≡ if_row_of b found) where
    next_is : MatchOption r NoNext Next
    next_is = subst (λ o. MatchOption o NoNext Next) (sym gives) (next_of found above)

    pub next_is_least : IfSome r (λ x. IsLeastAbove a (λ c. IsSome (at b rows h c)) x.0)
    next_is_least = some_of NoNext Next (λ x. IsLeastAbove a (λ c. IsSome (at b rows h c)) x.0) r next_is (λ x m. m.1)

    pub next_is_row : IfSome r (λ x. at b rows h x.0 ≡ Some x.1)
    next_is_row = some_of NoNext Next (λ x. at b rows h x.0 ≡ Some x.1) r next_is (λ x m. m.0)

    pub next_is_none : IfNone r NoNext
    next_is_none = none_of NoNext NoNext Next r next_is (λ m. m)
