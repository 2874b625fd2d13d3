-- The state without rows is sound.
use Rattle.std.proofs.Common.{◌≡◌, ℕ, ◌≤◌, Bool, false, None, sym, ap, ◌∙◌, arith}
use Rattle.apd_table.proofs.Words.{Addr, Bssid, IsAntisymmetric, IsTotalOrder, Ordering, Policy, Sound, Station, StationNumber, Which, aid_at, aid_of, bssid_cmp, differ, empty_state, eq_by_cmp, get-empty, is_list_row_of, is_some, len-empty, list_cmp, list_exact, list_total, none_is, none_is_some, station_at, station_cmp, station_exact, station_total}
use Rattle.std.specs.FinMap as map
use Rattle.apd_base.specs.Sets as set
use Rattle.apd_table.proofs.Parts.{part_kept, part_len}

-- a part of nothing has nothing
no_part : {K : Type 0} (X : Type 0) {R : K → K → Ordering} (o : IsTotalOrder R) (exact : IsAntisymmetric R) (p : K → Bool) → map.len (map.retain_keys (map.empty {X = X} {R = R}) p) ≡ 0
no_part X {R} o exact p = omega (arith, part_len o exact (map.retain_keys (map.empty {X = X} {R = R}) p) map.empty (part_kept o exact map.empty p), len-empty R X)

few : (n m : ℕ) → n ≡ 0 → n ≤ m
few n m e = omega arith

no_station : (b : Bssid) (a : Addr) → station_at empty_state b a ≡ None
no_station b a = get-empty station_cmp (b, a)

no_aid : (b : Bssid) (a : Addr) → aid_at empty_state b a ≡ None
no_aid b a = ap aid_of (no_station b a)

pub no_list_row : (b : Bssid) (w : Which) (a : Addr) → set.contains (map.empty {X = Unit {0}} {R = list_cmp}) (b, w, a) ≡ false
no_list_row b w a = ap is_some (get-empty list_cmp (b, w, a))

pub sound_empty : Sound empty_state
sound_empty = record {
  identifiers = λ b a i h. none_is_some i (sym (no_aid b a) ∙ h);
  distinct = λ b a c i h k. none_is_some i (sym (no_aid b a) ∙ h);
  one_association = λ b c a h k. none_is (aid_at empty_state b a) (no_aid b a) h;
  stations_have_policy = λ b a h. none_is (station_at empty_state b a) (no_station b a) h;
  lists_have_policy = λ b w a h. differ _ (no_list_row b w a) h;
  cursors_have_policy = λ b. ap is_some (get-empty {X = StationNumber} bssid_cmp b) ∙ sym (ap is_some (get-empty {X = Policy} bssid_cmp b));
  none_denied = λ b a h. none_is (station_at empty_state b a) (no_station b a) h;
  few_bss = few _ 8 (len-empty bssid_cmp Policy);
  few_stations = λ b. few _ 2007 (no_part Station station_total station_exact (λ k. eq_by_cmp bssid_cmp b k.0));
  few_listed = λ b w. few _ 1024 (no_part (Unit {0}) list_total list_exact (is_list_row_of b w));
}
