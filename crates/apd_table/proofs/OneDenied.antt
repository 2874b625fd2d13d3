-- Who is denied once one address is added to a list or taken out of one: in a sound state that address alone.
use Rattle.std.proofs.Common.{◌≡◌, ◌↔◌, Bool, true, false, cond, not, ◌&&◌, ◌||◌, List, [], ◌∷◌, map as list_map, filter, Option, Some, None, inl, inr, refl, sym, ap, ◌∙◌, T}
use Rattle.apd_table.proofs.Words.{Accept, Addr, Bssid, Change, Cursor, Deny, Drop, ListAdd, ListClear, ListDel, Lists, NoneDeniedAfter, Policy, Put, Sound, State, Station, Which, addr_cmp, addr_exact, addr_total, allowed, and_parts, any_passes, bssid_cmp, bssid_exact, bssid_total, contains, differ, eq_by_cmp, false_from_ne_true, found_head, has, has_after, is_address_denied_after, is_allowed, is_allowed_under, is_denied_after, is_list_row, is_some, is_some_of, is_sorted, is_sorted_tail, list_any, listed_address, meaning, not_yes, one_or_apart, policy_after, policy_at, same_bssid, second_false, station_at, station_cmp, station_exact, station_total, tied, tied_not_below}
use Rattle.std.specs.FinMap as map
use Rattle.std.specs.FinMap.{find}
use Rattle.apd_record.specs.declared.change.Change.TheVariants.{Policy as SetPolicy}
use Rattle.apd_table.specs.Rows.{is_station_row_of}
use Rattle.apd_table.proofs.AllRows.{allowed_after}
use Rattle.apd_table.proofs.DeniedRows.{all_pass_iff, none_passes}
use Rattle.apd_table.proofs.StationRows.{Row}

abbrev address : Row → Addr
address row = row.0.1

-- the address of a row that is there and passes, alone
abbrev pub alone : (Row → Bool) → Bssid × Addr → Option Station → List Addr
alone p key None = []
alone p key (Some v) = cond (p (key, v)) (key.1 ∷ []) []

-- behind the row of the only key that may pass none passes
none_behind : (p : Row → Bool) (key : Bssid × Addr) (row : Row) (rows : List Row) → T (is_sorted station_cmp (row ∷ rows)) → row.0 ≡ key
    → ((q : Bssid × Addr) (v : Station) → find station_cmp q rows ≡ Some v → p (q, v) ≡ true → q ≡ key) → filter p rows ≡ []
none_behind p key row rows sorted is only =
    none_passes p rows (false_from_ne_true (list_any p rows) (λ any.
    let behind = is_sorted_tail station_total row rows sorted in
    let one = any_passes station_total station_exact p (map.from_sorted rows) (ap (list_any p) (map.entries-from_sorted station_cmp rows behind) ∙ any) in
    let found = sym (map.get-from_sorted station_cmp rows one.0 behind) ∙ one.2 in
    let same : one.0 ≡ row.0 = only one.0 one.1 found one.3 ∙ sym is in
    differ _ (tied_not_below station_total one.0 row rows sorted one.1 found) (ap (λ k. eq_by_cmp station_cmp k row.0) same ∙ tied station_total station_exact row.0)))

told_alone : (t : Bool) (row : Row) → list_map address (cond t (row ∷ []) []) ≡ cond t (row.0.1 ∷ []) []
told_alone true row = refl
told_alone false row = refl

-- where one key alone may pass, its row is the only one that does
pub only_one : (p : Row → Bool) (key : Bssid × Addr) (rows : List Row) → T (is_sorted station_cmp rows)
    → ((q : Bssid × Addr) (v : Station) → find station_cmp q rows ≡ Some v → p (q, v) ≡ true → q ≡ key) → list_map address (filter p rows) ≡ alone p key (find station_cmp key rows)
only_one p key [] sorted only = refl
only_one p key (row ∷ rows) sorted only =
    let behind : (q : Bssid × Addr) (v : Station) → find station_cmp q rows ≡ Some v → p (q, v) ≡ true → q ≡ key =
    λ q v f passes. only q v (ap (λ t. cond t (Some row.1) (find station_cmp q rows)) (tied_not_below station_total q row rows sorted v f) ∙ f) passes in
    elim (one_or_apart station_total station_exact key row.0) [
      | inl same ↦
          let rest = none_behind p key row rows sorted (sym same) behind in
          let here : find station_cmp key (row ∷ rows) ≡ Some row.1 = ap (λ k. find station_cmp k (row ∷ rows)) same ∙ found_head station_total station_exact row rows in
          ap (λ rs. list_map address (cond (p row) (row ∷ rs) rs)) rest ∙ told_alone (p row) row
          ∙ ap (λ k. cond (p (k, row.1)) (k.1 ∷ []) []) (sym same) ∙ ap (alone p key) (sym here)
      | inr apart ↦
          elim (p row) as (λ t. p row ≡ t → list_map address (cond t (row ∷ filter p rows) (filter p rows)) ≡ alone p key (find station_cmp key (row ∷ rows))) [
            | true ↦ λ passes.
                let same : row.0 ≡ key = only row.0 row.1 (found_head station_total station_exact row rows) passes in
                differ _ apart (ap (λ k. eq_by_cmp station_cmp key k) same ∙ tied station_total station_exact key)
            | false ↦ λ e. only_one p key rows (is_sorted_tail station_total row rows sorted) behind
                ∙ ap (alone p key) (sym (ap (λ t. cond t (Some row.1) (find station_cmp key rows)) apart))
          ] refl
    ]

-- whether there is one
abbrev is_any : {X : Type 0} → List X → Bool
is_any [] = false
is_any (x ∷ xs) = true

any_is : (p : Row → Bool) (rows : List Row) → is_any (list_map address (filter p rows)) ≡ list_any p rows
any_is p [] = refl
any_is p (row ∷ rows) = elim (p row) as (λ t. is_any (list_map address (cond t (row ∷ filter p rows) (filter p rows))) ≡ (t || list_any p rows)) [ true ↦ refl | false ↦ any_is p rows ]

abbrev eq_or_false : Addr → Option Addr → Bool
eq_or_false a None = false
eq_or_false a (Some d) = eq_by_cmp addr_cmp a d

-- the lists keep each other address
kept_row : (b : Bssid) (w : Which) (a : Addr) (c : Bssid) (v : Which) (d : Addr) → eq_by_cmp addr_cmp a d ≡ false → is_list_row b w a c v d ≡ false
kept_row b w a c v d apart = second_false _ _ (second_false _ _ apart)

pub kept_lists : (lists : Lists) (b : Bssid) (change : Change) (d : Addr) → Some d ≡ listed_address change → (w : Which) (a : Addr) → eq_by_cmp addr_cmp a d ≡ false → has_after lists b change w a ≡ has lists w a
kept_lists lists b (ListAdd c v x) d is w a apart = ap (λ t. t || has lists w a) (kept_row b w a c v x (ap (λ o. eq_or_false a o) (sym is) ∙ apart))
kept_lists lists b (ListDel c v x) d is w a apart = ap (λ t. not t && has lists w a) (kept_row b w a c v x (ap (λ o. eq_or_false a o) (sym is) ∙ apart))
kept_lists lists b (ListClear c v) d is w a apart = cc
kept_lists lists b (Put c x station) d is w a apart = cc
kept_lists lists b (Drop c x) d is w a apart = cc
kept_lists lists b (SetPolicy c policy) d is w a apart = cc
kept_lists lists b (Cursor c last) d is w a apart = cc

-- nor is the policy another
pub kept_policy : (policy : Policy) (b : Bssid) (change : Change) (d : Addr) → Some d ≡ listed_address change → policy_after policy b change ≡ policy
kept_policy policy b (ListAdd c v x) d is = refl
kept_policy policy b (ListDel c v x) d is = refl
kept_policy policy b (ListClear c v) d is = refl
kept_policy policy b (Put c x station) d is = refl
kept_policy policy b (Drop c x) d is = refl
kept_policy policy b (SetPolicy c new) d is = cc
kept_policy policy b (Cursor c last) d is = refl

module _ (s : State) (b : Bssid) (sound : Sound s) (policy : Policy) (at_b : Some policy ≡ policy_at s b) (lists : Lists) (same : (w : Which) (a : Addr) → has lists w a ≡ contains s.lists (b, w, a))
    (change : Change) (d : Addr) (is : Some d ≡ listed_address change) where
  abbrev denies : Row → Bool
  denies row = is_denied_after lists policy.mode b change row

  -- no other station is denied
  only_it : (q : Bssid × Addr) (v : Station) → find station_cmp q (map.entries s.stations) ≡ Some v → denies (q, v) ≡ true → q ≡ (b, d)
  only_it q v f passes =
      let parts = and_parts (eq_by_cmp bssid_cmp b q.0) (is_address_denied_after lists policy.mode b change q.1) passes in
      let bssid : b ≡ q.0 = same_bssid q.0 b parts.0 in
      elim (one_or_apart addr_total addr_exact q.1 d) [
        | inl e ↦ λ i. (sym bssid i, e i)
        | inr apart ↦
            let row : station_at s b q.1 ≡ Some v = ap (λ c. station_at s c q.1) bssid ∙ map.get-entries s.stations q ∙ f in
            let now : is_allowed policy.mode (has lists Accept q.1) (has lists Deny q.1) ≡ true =
            (λ i. is_allowed policy.mode (same Accept q.1 i) (same Deny q.1 i)) ∙ ap (is_allowed_under s b q.1) at_b ∙ sound.none_denied b q.1 (is_some_of _ v row) in
            let after : is_allowed policy.mode (has_after lists b change Accept q.1) (has_after lists b change Deny q.1) ≡ false = not_yes _ parts.1 in
            differ _ after ((λ i. is_allowed policy.mode (kept_lists lists b change d is Accept q.1 apart i) (kept_lists lists b change d is Deny q.1 apart i)) ∙ now)
      ]

  alone_is : (o : Option Station) → alone denies (b, d) o ≡ cond (is_some o && is_address_denied_after lists policy.mode b change d) (d ∷ []) []
  alone_is None = refl
  alone_is (Some v) = ap (λ t. cond (t && is_address_denied_after lists policy.mode b change d) (d ∷ []) []) (tied bssid_total bssid_exact b)

  pub one_denied : cond (is_some (station_at s b d) && is_address_denied_after lists policy.mode b change d) (d ∷ []) [] ≡ list_map address (filter denies (map.entries s.stations))
  one_denied =
      sym (only_one denies (b, d) (map.entries s.stations) (map.entries_sorted s.stations) only_it ∙ ap (alone denies (b, d)) (sym (map.get-entries s.stations (b, d))) ∙ alone_is (station_at s b d))

  -- so a row is denied exactly where it is
  pub any_denied : (is_some (station_at s b d) && is_address_denied_after lists policy.mode b change d) ≡ list_any denies (map.entries s.stations)
  any_denied = sym (any_alone _) ∙ ap is_any one_denied ∙ any_is denies (map.entries s.stations)
    where
      any_alone : (t : Bool) → is_any (cond t (d ∷ []) []) ≡ t
      any_alone true = refl
      any_alone false = refl

-- a test of all rows tells whether a row is denied once a change is made
pub none_denied_iff : (s : State) (b : Bssid) (policy : Policy) (at_b : Some policy ≡ policy_at s b) (lists : Lists) (same : (w : Which) (a : Addr) → has lists w a ≡ contains s.lists (b, w, a)) (change : Change) (t : Bool)
    → t ≡ list_any (is_denied_after lists (policy_after policy b change).mode b change) (map.entries s.stations) → (not t ≡ true) ↔ NoneDeniedAfter s b change
none_denied_iff s b policy at_b lists same change t e =
    all_pass_iff s b (allowed (meaning change s) b) t (e ∙ (λ i. list_any (λ (row : Row). is_station_row_of b row && not (allowed_after s b lists same policy at_b change row.0.1 i)) (map.entries s.stations)))
