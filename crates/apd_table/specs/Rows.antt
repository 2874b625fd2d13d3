-- Station rows one by one.
use Rattle.std.specs.Prelude.{◌≡◌, ℕ, ◌<◌, ◌≤◌, Bool, true, false, cond, ◌&&◌, not, List, T, Option, Some, None}
use Rattle.std.specs.FinMap as map
use Rattle.std.specs.List.{AllByRecursion}
use Rattle.std.specs.Option.{is_some}
use Rattle.std.specs.Ordering.{eq_by_cmp}
use Rattle.apd_base.specs.declared.address.Addr.{Addr}
use Rattle.apd_base.specs.declared.address.Bssid.{Bssid}
use Rattle.apd_base.specs.declared.limits.TheConstants.{MAX_STATIONS}
use Rattle.apd_base.specs.declared.station.Station.{Station}
use Rattle.apd_base.specs.Addr.{IsAddr, bssid_cmp, station_cmp}
use Rattle.apd_base.specs.State.{aid_of}

-- entries in the order of their keys, each with an address of six bytes
abbrev pub AreRows : List ((Bssid × Addr) × Station) → Type 0
AreRows rows = T (map.is_sorted station_cmp rows) × AllByRecursion (λ row. IsAddr row.0.1) rows

abbrev pub is_station_row_of : Bssid → (Bssid × Addr) × Station → Bool
is_station_row_of b row = eq_by_cmp bssid_cmp b row.0.0

-- whether a station is associated at c, where this is what c has of it, and c is not b
abbrev pub is_associated_apart : Bssid → Bssid → Option Station → Bool
is_associated_apart b c station = not (eq_by_cmp bssid_cmp b c) && is_some (aid_of station)

-- the least identifier above a number that is not marked
pub record IsLeastUnmarked (marked : ℕ → Bool) (last i : ℕ) : Type 0 where
  pub low : last < i
  pub high : i ≤ MAX_STATIONS
  pub free : marked i ≡ false
  pub smaller : (j : ℕ) → last < j → j < i → marked j ≡ true

-- each above it is
abbrev pub AreMarkedAbove : (ℕ → Bool) → ℕ → Type 0
AreMarkedAbove marked last = (j : ℕ) → last < j → j ≤ MAX_STATIONS → marked j ≡ true

-- what is told of a row
abbrev pub address_and_station : (Bssid × Addr) × Station → Addr × Station
address_and_station row = (row.0.1, row.1)

-- a row, if it is one of the BSSID
abbrev pub if_row_of : Bssid → Option ((Bssid × Addr) × Station) → Option (Addr × Station)
if_row_of b None = None
if_row_of b (Some row) = cond (is_station_row_of b row) (Some (address_and_station row)) None
