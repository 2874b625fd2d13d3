-- The rows of a BSSID, and what is left of them once lists are changed.
use Rattle.std.proofs.Common.{◌≡◌, ◌≤◌, Bool, true, false, cond, not, ◌&&◌, ◌||◌, List, length, map as list_map, filter, Some, refl, sym, ap, subst, ◌∙◌}
use Rattle.apd_table.proofs.Words.{Accept, AclMode, Addr, Bssid, Change, Cursor, Deny, Drop, ListAdd, ListClear, ListDel, Lists, Policy, Put, State, Station, Which, addr_cmp, addr_exact, addr_total, addresses_at, allowed, both_true, bssid_cmp, bssid_exact, bssid_total, contains, count, denials_by, entries-retain_keys, eq_by_cmp, has, has_after, is_allowed, is_allowed_in, is_allowed_under, is_among, is_denied_after, is_denied_row, is_list_row_of, length-map, list_any, list_exact, list_total, meaning, passes_any, policy_after, policy_at, station_at, station_exact, station_total, tied, with_lists_after}
use Rattle.std.specs.FinMap as map
use Rattle.apd_record.specs.declared.change.Change.TheVariants.{Policy as SetPolicy}
use Rattle.apd_table.specs.Rows as rows
use Rattle.apd_table.proofs.Denied.{any_mapped}
use Rattle.apd_table.proofs.ListCounts.{length-filter_le}
use Rattle.apd_table.proofs.StationRows.{filter_filtered}
use Rattle.apd_table.proofs.ListSets.{contains-insert, contains-remove, contains-retain_keys, same_row}

-- what is so of a station with a row is so of one of the addresses
pub any_address : (s : State) (b : Bssid) (test : Addr → Bool) (a : Addr) (x : Station) → station_at s b a ≡ Some x → test a ≡ true → list_any test (addresses_at s b) ≡ true
any_address s b test a x row passes =
    any_mapped test (λ row. row.0.1) (rows.is_station_row_of b) (map.entries s.stations)
    ∙ passes_any station_total station_exact (λ row. rows.is_station_row_of b row && test row.0.1) s.stations (b, a) x row (both_true _ _ (tied bssid_total bssid_exact b) passes)

-- so it is among them
pub among_addresses : (s : State) (b : Bssid) (a : Addr) (x : Station) → station_at s b a ≡ Some x → is_among a (addresses_at s b) ≡ true
among_addresses s b a x row = any_address s b (eq_by_cmp addr_cmp a) a x row (tied addr_total addr_exact a)

-- there are as many as rows, and no more are denied
module _ (s : State) (b : Bssid) where
  abbrev all : List ((Bssid × Addr) × Station)
  all = filter (rows.is_station_row_of b) (map.entries s.stations)

  counted : count s b ≡ length all
  counted = map.len-entries _ ∙ ap length (entries-retain_keys station_total station_exact (λ k. eq_by_cmp bssid_cmp b k.0) s.stations)

  pub addresses_few : length (addresses_at s b) ≡ count s b
  addresses_few = length-map all (λ row. row.0.1) ∙ sym counted

  pub denied_few : (mode : AclMode) → length (denials_by s b mode) ≤ count s b
  denied_few mode =
      let denies = λ (row : (Bssid × Addr) × Station). not (is_allowed_in s b row.0.1 mode) in
      let shorter = subst (λ (xs : List ((Bssid × Addr) × Station)). length xs ≤ length all) (filter_filtered (rows.is_station_row_of b) denies (map.entries s.stations)) (length-filter_le denies all) in
      rw (length-map (filter (is_denied_row s b mode) (map.entries s.stations)) (λ row. row.0.1)) (rw counted shorter)

-- the lists of a BSSID after a change are those of the state after it
module _ (s : State) (b : Bssid) (lists : Lists) (same : (w : Which) (a : Addr) → has lists w a ≡ contains s.lists (b, w, a)) where
  has_after-is : (change : Change) (w : Which) (a : Addr) → has_after lists b change w a ≡ contains (with_lists_after change s).lists (b, w, a)
  has_after-is (ListAdd c v d) w a =
      (λ i. sym (same_row b c w v a d) i || same w a i) ∙ sym (contains-insert list_total list_exact s.lists (c, v, d) (b, w, a))
  has_after-is (ListDel c v d) w a =
      (λ i. not (sym (same_row b c w v a d) i) && same w a i) ∙ sym (contains-remove list_total list_exact s.lists (c, v, d) (b, w, a))
  has_after-is (ListClear c v) w a =
      ap (λ t. not (is_list_row_of c v (b, w, a)) && t) (same w a) ∙ sym (contains-retain_keys list_total list_exact s.lists (λ row. not (is_list_row_of c v row)) (b, w, a))
  has_after-is (Put c d station) w a = same w a
  has_after-is (Drop c d) w a = same w a
  has_after-is (SetPolicy c policy) w a = same w a
  has_after-is (Cursor c last) w a = same w a

  -- and its policy is that of the state after
  some_either : (t : Bool) (p q : Policy) → Some (cond t q p) ≡ cond t (Some q) (Some p)
  some_either true p q = refl
  some_either false p q = refl

  policy_is : (p : Policy) → Some p ≡ policy_at s b → (change : Change) → Some (policy_after p b change) ≡ policy_at (meaning change s) b
  policy_is p at (SetPolicy c q) = some_either (eq_by_cmp bssid_cmp b c) p q ∙ ap (cond (eq_by_cmp bssid_cmp b c) (Some q)) at ∙ sym (map.get-insert bssid_total s.policies c q b)
  policy_is p at (ListAdd c v d) = at
  policy_is p at (ListDel c v d) = at
  policy_is p at (ListClear c v) = at
  policy_is p at (Put c d station) = at
  policy_is p at (Drop c d) = at
  policy_is p at (Cursor c last) = at

  pub allowed_after : (p : Policy) → Some p ≡ policy_at s b → (change : Change) (a : Addr) → is_allowed (policy_after p b change).mode (has_after lists b change Accept a) (has_after lists b change Deny a) ≡ allowed (meaning change s) b a
  allowed_after p at change a =
      (λ i. is_allowed (policy_after p b change).mode (has_after-is change Accept a i) (has_after-is change Deny a i)) ∙ ap (is_allowed_under (meaning change s) b a) (policy_is p at change)

  -- so the rows that are denied are those that the state after denies
  pub denials_after-is : (mode : AclMode) (change : Change) → list_map (λ (row : (Bssid × Addr) × Station). row.0.1) (filter (is_denied_after lists mode b change) (map.entries s.stations)) ≡ denials_by (with_lists_after change s) b mode
  denials_after-is mode change = λ i. list_map (λ (row : (Bssid × Addr) × Station). row.0.1)
      (filter (λ row. rows.is_station_row_of b row && not (is_allowed mode (has_after-is change Accept row.0.1 i) (has_after-is change Deny row.0.1 i))) (map.entries s.stations))
