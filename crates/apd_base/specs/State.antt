-- The state of an access point: the station rows by (BSSID, address), the list rows, and the policy and the cursor of
-- each BSSID.
use Rattle.std.specs.Prelude.{ℕ, Bool, ◌&&◌, Option, Some, None, IsTrue}
use Rattle.std.specs.declared.cmp.Ordering.{Ordering}
use Rattle.std.specs.Ordering.{nat_cmp, ordering_then, eq_by_cmp}
use Rattle.std.specs.FinMap as map
use Rattle.std.specs.FinMap.{FinMap}
use Rattle.apd_base.specs.Sets as set
use Rattle.apd_base.specs.Sets.{SetOf, coded_set}
use Rattle.apd_base.specs.declared.address.Addr.{Addr}
use Rattle.apd_base.specs.declared.address.Bssid.{Bssid}
use Rattle.apd_base.specs.declared.station.Station.{Station}
use Rattle.apd_base.specs.declared.station.Station.TheVariants.{Authenticated, Associated}
use Rattle.apd_base.specs.declared.station.Which.{Which}
use Rattle.apd_base.specs.declared.station.Which.TheVariants.{Accept, Deny}
use Rattle.apd_base.specs.declared.station.Policy.{Policy}
use Rattle.apd_base.specs.declared.station.StationNumber.{StationNumber}
use Rattle.apd_base.specs.Addr.{addr_cmp, bssid_cmp, station_cmp}

-- the accept list first
abbrev pub which_number : Which → ℕ
which_number Accept = 0
which_number Deny = 1

abbrev pub which_cmp : Which → Which → Ordering
which_cmp v w = nat_cmp (which_number v) (which_number w)

-- list rows by BSSID, list and address
abbrev pub list_cmp : Bssid × Which × Addr → Bssid × Which × Addr → Ordering
list_cmp x y = ordering_then (bssid_cmp x.0 y.0) (ordering_then (which_cmp x.1 y.1) (addr_cmp x.2 y.2))

pub record State : Type 0 where
  pub stations : FinMap station_cmp Station
  pub lists : SetOf list_cmp
  pub policies : FinMap bssid_cmp Policy
  -- the identifier that each BSSID with a policy gave last, 0 where it gave none yet
  pub cursors : FinMap bssid_cmp StationNumber

-- no row
abbrev pub empty_state : State
empty_state = record { stations = map.empty; lists = map.empty; policies = map.empty; cursors = map.empty }

abbrev pub station_at : State → Bssid → Addr → Option Station
station_at s b a = map.get s.stations (b, a)

abbrev pub policy_at : State → Bssid → Option Policy
policy_at s b = map.get s.policies b

abbrev pub cursor_at : State → Bssid → Option StationNumber
cursor_at s b = map.get s.cursors b

abbrev pub IsListed : State → Bssid → Which → Addr → Type 0
IsListed s b w a = IsTrue (set.contains s.lists (b, w, a))

-- the identifier of an associated station
abbrev pub aid_of : Option Station → Option ℕ
aid_of None = None
aid_of (Some Authenticated) = None
aid_of (Some (Associated association)) = Some association.aid.number

abbrev pub aid_at : State → Bssid → Addr → Option ℕ
aid_at s b a = aid_of (station_at s b a)

-- the station rows of a BSSID, and how many there are
abbrev pub stations_of : State → Bssid → FinMap station_cmp Station
stations_of s b = map.retain_keys s.stations (λ k. eq_by_cmp bssid_cmp b k.0)

abbrev pub count : State → Bssid → ℕ
count s b = map.len (stations_of s b)

abbrev pub is_list_row_of : Bssid → Which → Bssid × Which × Addr → Bool
is_list_row_of b w row = eq_by_cmp bssid_cmp b row.0 && eq_by_cmp which_cmp w row.1

abbrev pub list_count : State → Bssid → Which → ℕ
list_count s b w = map.len (map.retain_keys s.lists (is_list_row_of b w))
