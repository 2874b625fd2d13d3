-- What a scan for denied rows says of a state.
use Rattle.std.proofs.Common.{◌≡◌, ◌↔◌, Bool, true, false, cond, not, ◌&&◌, ◌||◌, List, [], ◌∷◌, map as list_map, filter, None, IsSome, refl, sym, ap, ◌∙◌}
use Rattle.apd_table.proofs.Words.{AclMode, Addr, Bssid, Sound, State, Station, and_parts, any_passes, bssid_cmp, bssid_exact, bssid_total, denials_by, differ, eq_by_cmp, false_from_ne_true, is_denied_row, is_some_of, list_any, none_is, not_yes, passes_any, policy_at, same_bssid, station_at, station_exact, station_total, tied, true_from_ne_false}
use Rattle.std.specs.FinMap as map
use Rattle.apd_table.specs.Rows.{is_station_row_of}
use Rattle.apd_base.proofs.Cases.{value_of}

module _ (s : State) (b : Bssid) (g : Addr → Bool) where
  abbrev fails : (Bssid × Addr) × Station → Bool
  fails row = is_station_row_of b row && not (g row.0.1)

  none_fails : list_any fails (map.entries s.stations) ≡ false → (a : Addr) → IsSome (station_at s b a) → g a ≡ true
  none_fails none a h =
      let x = value_of (station_at s b a) h in
      true_from_ne_false (g a) (λ e. differ _ none (passes_any station_total station_exact fails s.stations (b, a) x.0 x.1 (λ i. tied bssid_total bssid_exact b i && not (e i))))

  one_fails : {A : Type 0} → list_any fails (map.entries s.stations) ≡ true → ((a : Addr) → IsSome (station_at s b a) → g a ≡ true) → A
  one_fails any all =
      let found = any_passes station_total station_exact fails s.stations any in
      let parts = and_parts (eq_by_cmp bssid_cmp b (found.0).0) (not (g (found.0).1)) found.3 in
      differ _ (not_yes _ parts.1) (all (found.0).1 (is_some_of _ found.1 (ap (λ c. station_at s c (found.0).1) (same_bssid (found.0).0 b parts.0) ∙ found.2)))

  abbrev pub AllPass : Type 0
  AllPass = (a : Addr) → IsSome (station_at s b a) → g a ≡ true

  -- no row fails exactly where each passes
  pub all_pass_iff : (t : Bool) → t ≡ list_any fails (map.entries s.stations) → (not t ≡ true) ↔ AllPass
  all_pass_iff true e = (λ h. cc, λ all. one_fails (sym e) all)
  all_pass_iff false e = (λ h. none_fails (sym e), λ all. refl)

pub none_passes : {X : Type 0} (p : X → Bool) (xs : List X) → list_any p xs ≡ false → filter p xs ≡ []
none_passes p [] e = refl
none_passes p (x ∷ xs) e =
    elim (p x) as (λ t. (t || list_any p xs) ≡ false → cond t (x ∷ filter p xs) (filter p xs) ≡ []) [
      | true ↦ λ f. differ true f refl
      | false ↦ λ f. none_passes p xs f
    ] e

-- without a policy there is no row to deny
pub no_row : {A : Type 0} (s : State) (b : Bssid) → Sound s → None ≡ policy_at s b → (a : Addr) → IsSome (station_at s b a) → A
no_row s b sound none a h = none_is (policy_at s b) (sym none) (sound.stations_have_policy b a h)

pub none_denied_by : (s : State) (b : Bssid) (mode : AclMode) → Sound s → None ≡ policy_at s b → denials_by s b mode ≡ []
none_denied_by s b mode sound none =
    let p = is_denied_row s b mode in
    ap (list_map (λ (row : (Bssid × Addr) × Station). row.0.1)) (none_passes p (map.entries s.stations)
    (false_from_ne_true (list_any p (map.entries s.stations)) (λ any.
    let found = any_passes station_total station_exact p s.stations any in
    let parts = and_parts (eq_by_cmp bssid_cmp b (found.0).0) _ found.3 in
    no_row s b sound none (found.0).1 (is_some_of _ found.1 (ap (λ c. station_at s c (found.0).1) (same_bssid (found.0).0 b parts.0) ∙ found.2)))))
