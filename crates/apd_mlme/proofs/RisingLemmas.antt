-- Lists of addresses rise as rows do, and no BSSID is there twice among those that have a policy.
use Rattle.std.proofs.Common.{◌≡◌, Bool, true, false, cond, ◌||◌, List, [], ◌∷◌, refl, sym, ap, ◌∙◌, arith, suc, T, All}
use Rattle.std.specs.Prelude.{filter, map as list_map}
use Rattle.apd_mlme.proofs.Words.{AclMode, Addr, All-cons, All-nil, AllByRecursion, AllPairs-cons, Bssid, Equal, FinMap, Greater, Less, Rise, State, Station, addr_cmp, addresses_at, and_parts, bssid_cmp, denials_by, entries_sorted, eq_by_cmp, first_holds, is_among, is_denied_row, is_eq, is_less, is_sorted, ordering_then, recursion_from_All, same_bssid, second_false, second_holds, station_cmp}
use Rattle.std.specs.declared.cmp.Ordering.{Ordering}
use Rattle.std.specs.FinMap as map
use Rattle.std.specs.FinMap.{entries}
use Rattle.std.specs.FinMap.Entries.{below_all}
use Rattle.apd_table.specs.Rows as rows
use Rattle.apd_mlme.proofs.ElsewhereLemmas.{is_bssid_among, among-filter}

-- ---- the addresses of a BSSID's rows
then_next : (r q : Ordering) → is_eq r ≡ true → ordering_then r q ≡ q
then_next Less q e = cc
then_next Equal q e = refl
then_next Greater q e = cc

abbrev Row : Type 0
Row = (Bssid × Addr) × Station

module _ (b : Bssid) (test : Row → Bool) (here : (row : Row) → test row ≡ true → eq_by_cmp bssid_cmp b row.0.0 ≡ true) where
  abbrev addresses : List Row → List Addr
  addresses es = list_map (λ (row : Row). row.0.1) (filter test es)

  less_address : (x e : Row) → test x ≡ true → test e ≡ true → station_cmp x.0 e.0 ≡ Less → addr_cmp x.0.1 e.0.1 ≡ Less
  less_address x e its own less =
      let one = ap (λ z. eq_by_cmp bssid_cmp z e.0.0) (sym (same_bssid x.0.0 b (here x its))) ∙ here e own in
      sym (then_next (bssid_cmp x.0.0 e.0.0) (addr_cmp x.0.1 e.0.1) one) ∙ less

  above : (x : Row) → test x ≡ true → (es : List Row) → T (below_all station_cmp x.0 es) → All (λ a. addr_cmp x.0.1 a ≡ Less) (addresses es)
  above x its [] h = All-nil (λ a. addr_cmp x.0.1 a ≡ Less)
  above x its (e ∷ es) h =
      let rest = above x its es (second_holds _ _ h) in
      elim (test e) as (λ t. test e ≡ t → All (λ a. addr_cmp x.0.1 a ≡ Less) (list_map (λ (row : Row). row.0.1) (cond t (e ∷ filter test es) (filter test es)))) [
        | true ↦ λ own. All-cons (λ a. addr_cmp x.0.1 a ≡ Less) e.0.1 (addresses es) (less_address x e its own (is_less _ (first_holds _ _ h))) rest
        | false ↦ λ _. rest
      ] refl

  addresses_rise_in : (es : List Row) → T (is_sorted station_cmp es) → Rise (addresses es)
  addresses_rise_in [] h = λ i j d lt within. absurd (omega arith)
  addresses_rise_in (e ∷ es) h =
      let rest = addresses_rise_in es (second_holds _ _ h) in
      elim (test e) as (λ t. test e ≡ t → Rise (list_map (λ (row : Row). row.0.1) (cond t (e ∷ filter test es) (filter test es)))) [
        | true ↦ λ own. AllPairs-cons (λ a c. addr_cmp a c ≡ Less) e.0.1 (addresses es) (above e own es (first_holds _ _ h)) rest
        | false ↦ λ _. rest
      ] refl

pub addresses_rise : (s : State) (b : Bssid) → Rise (addresses_at s b)
addresses_rise s b = addresses_rise_in b (rows.is_station_row_of b) (λ row e. e) (entries s.stations) (entries_sorted s.stations)

pub denied_rise : (s : State) (b : Bssid) (mode : AclMode) → Rise (denials_by s b mode)
denied_rise s b mode = addresses_rise_in b (is_denied_row s b mode) (λ row e. (and_parts _ _ e).0) (entries s.stations) (entries_sorted s.stations)

-- none, and one
pub none_rise : Rise []
none_rise = λ i j d lt within. absurd (omega arith)

pub one_rises : (a : Addr) → Rise (a ∷ [])
one_rises a = AllPairs-cons (λ x y. addr_cmp x y ≡ Less) a [] (All-nil (λ y. addr_cmp a y ≡ Less)) none_rise

-- what rises has none twice
abbrev pub Differ : List Addr → Type 0
Differ [] = Unit {0}
Differ (a ∷ as') = (is_among a as' ≡ false) × Differ as'

not_among : (a : Addr) (as' : List Addr) → AllByRecursion (λ y. addr_cmp a y ≡ Less) as' → is_among a as' ≡ false
not_among a [] h = refl
not_among a (y ∷ as') h = ap (λ t. t || is_among a as') (ap is_eq h.0) ∙ not_among a as' h.1

pub rise_differ : (as' : List Addr) → Rise as' → Differ as'
rise_differ [] h = tt
rise_differ (a ∷ as') h = (
  not_among a as' (recursion_from_All (λ y. addr_cmp a y ≡ Less) as' (λ k d within. h 0 (suc k) d (omega arith) (omega arith))),
  rise_differ as' (λ i j d lt within. h (suc i) (suc j) d (omega arith) (omega arith)),
)

-- ---- BSSIDs
abbrev pub Apart : List Bssid → Type 0
Apart [] = Unit {0}
Apart (x ∷ bssids) = (is_bssid_among x bssids ≡ false) × Apart bssids

pub apart-filter : (p : Bssid → Bool) (bssids : List Bssid) → Apart bssids → Apart (filter p bssids)
apart-filter p [] h = tt
apart-filter p (x ∷ bssids) h =
    let rest = apart-filter p bssids h.1 in
    elim (p x) as (λ t. Apart (cond t (x ∷ filter p bssids) (filter p bssids))) [
      | true ↦ (among-filter p x bssids ∙ second_false (p x) (is_bssid_among x bssids) h.0, rest)
      | false ↦ rest
    ]

module _ {X : Type 0} where
  abbrev keys_of : List (Bssid × X) → List Bssid
  keys_of es = list_map (λ (e : Bssid × X). e.0) es

  not_above : (x : Bssid) (es : List (Bssid × X)) → T (below_all bssid_cmp x es) → is_bssid_among x (keys_of es) ≡ false
  not_above x [] h = refl
  not_above x (e ∷ es) h =
      ap (λ t. t || is_bssid_among x (keys_of es)) (ap is_eq (is_less _ (first_holds _ _ h))) ∙ not_above x es (second_holds _ _ h)

  apart_in : (es : List (Bssid × X)) → T (is_sorted bssid_cmp es) → Apart (keys_of es)
  apart_in [] h = tt
  apart_in (e ∷ es) h = (not_above e.0 es (first_holds _ _ h), apart_in es (second_holds _ _ h))

  pub keys_apart : (m : FinMap bssid_cmp X) → Apart (map.keys m)
  keys_apart m = apart_in (entries m) (entries_sorted m)
