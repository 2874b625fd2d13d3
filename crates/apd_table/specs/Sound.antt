-- The states that an access point may be in.
use Rattle.std.specs.Prelude.{◌≡◌, ℕ, ◌≤◌, List, [], ◌∷◌, Some, IsSome, IsTrue}
use Rattle.std.specs.FinMap as map
use Rattle.std.specs.Option.{is_some}
use Rattle.apd_base.specs.declared.address.Addr.{Addr}
use Rattle.apd_base.specs.declared.address.Bssid.{Bssid}
use Rattle.apd_base.specs.declared.limits.TheConstants.{MAX_BSS, MAX_STATIONS, MAX_LISTED}
use Rattle.apd_base.specs.declared.station.Which.{Which}
use Rattle.apd_base.specs.State.{State, station_at, policy_at, cursor_at, aid_at, count, list_count, IsListed}
use Rattle.apd_record.specs.Meaning.{meaning}
use Rattle.apd_record.specs.declared.change.Change.{Change}
use Rattle.apd_table.specs.Allowed.{allowed}

pub record Sound (s : State) : Type 0 where
  -- an association identifier is from 1 to 2007 (IEEE Std 802.11-2016, 9.4.1.8)
  pub identifiers : (b : Bssid) (a : Addr) (i : ℕ) → aid_at s b a ≡ Some i → (1 ≤ i) × (i ≤ MAX_STATIONS)
  -- no two stations of a BSSID have the same one
  pub distinct : (b : Bssid) (a c : Addr) (i : ℕ) → aid_at s b a ≡ Some i → aid_at s b c ≡ Some i → a ≡ c
  -- a station is associated with one access point at most (4.5.3.3)
  pub one_association : (b c : Bssid) (a : Addr) → IsSome (aid_at s b a) → IsSome (aid_at s c a) → b ≡ c
  -- each BSSID of a row has a policy
  pub stations_have_policy : (b : Bssid) (a : Addr) → IsSome (station_at s b a) → IsSome (policy_at s b)
  pub lists_have_policy : (b : Bssid) (w : Which) (a : Addr) → IsListed s b w a → IsSome (policy_at s b)
  -- exactly a BSSID with a policy has a cursor
  pub cursors_have_policy : (b : Bssid) → is_some (cursor_at s b) ≡ is_some (policy_at s b)
  -- no station has a row that the policy denies
  pub none_denied : (b : Bssid) (a : Addr) → IsSome (station_at s b a) → IsTrue (allowed s b a)
  -- the limits
  pub few_bss : map.len s.policies ≤ MAX_BSS
  pub few_stations : (b : Bssid) → count s b ≤ MAX_STATIONS
  pub few_listed : (b : Bssid) (w : Which) → list_count s b w ≤ MAX_LISTED

-- each front of the changes leaves a sound state
abbrev pub StaySound : List Change → State → Type 0
StaySound [] s = Sound s
StaySound (change ∷ changes) s = Sound s × StaySound changes (meaning change s)
