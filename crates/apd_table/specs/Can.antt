-- What a change needs so that a sound state stays sound.
use Rattle.std.specs.Prelude.{◌≡◌, ℕ, ◌<◌, Some, IsSome, IfSome, IsTrue, ◌⊎◌}
use Rattle.std.specs.FinMap as map
use Rattle.apd_base.specs.declared.address.Addr.{Addr}
use Rattle.apd_base.specs.declared.address.Bssid.{Bssid}
use Rattle.apd_base.specs.declared.limits.TheConstants.{MAX_BSS, MAX_STATIONS, MAX_LISTED}
use Rattle.apd_base.specs.declared.station.Station.{Station}
use Rattle.apd_base.specs.declared.station.Policy.{Policy}
use Rattle.apd_base.specs.declared.station.Which.{Which}
use Rattle.apd_base.specs.State.{State, station_at, policy_at, aid_of, aid_at, count, list_count, IsListed}
use Rattle.apd_record.specs.Meaning.{meaning}
use Rattle.apd_record.specs.declared.change.Change.{Change}
use Rattle.apd_record.specs.declared.change.Change.TheVariants.{ListAdd, Policy as SetPolicy}
use Rattle.apd_table.specs.Allowed.{allowed}

-- no other station of the BSSID has the identifier
abbrev pub IsFreeFor : State → Bssid → Addr → ℕ → Type 0
IsFreeFor s b a i = (c : Addr) → aid_at s b c ≡ Some i → a ≡ c

-- the station is associated at no other BSSID
abbrev pub IsAlone : State → Bssid → Addr → Type 0
IsAlone s b a = (c : Bssid) → IsSome (aid_at s c a) → b ≡ c

-- the station may be associated at the BSSID with the identifier
pub record MayHave (s : State) (b : Bssid) (a : Addr) (i : ℕ) : Type 0 where
  pub free : IsFreeFor s b a i
  pub alone : IsAlone s b a

-- a station's row
pub record CanPut (s : State) (b : Bssid) (a : Addr) (v : Station) : Type 0 where
  pub identified : IfSome (aid_of (Some v)) (MayHave s b a)
  pub allowed : IsSome (policy_at s b) × IsTrue (allowed s b a)
  pub room : IsSome (station_at s b a) ⊎ (count s b < MAX_STATIONS)

-- each station with a row at the BSSID is allowed there once a change is made
abbrev pub NoneDeniedAfter : State → Bssid → Change → Type 0
NoneDeniedAfter s b change = (a : Addr) → IsSome (station_at s b a) → IsTrue (allowed (meaning change s) b a)

-- a BSSID's policy
pub record CanSet (s : State) (b : Bssid) (p : Policy) : Type 0 where
  pub room : IsSome (policy_at s b) ⊎ (map.len s.policies < MAX_BSS)
  pub allowed : NoneDeniedAfter s b (SetPolicy b p)

-- an address more in a list. For one less, and for none, no station may be denied after it
pub record CanAdd (s : State) (b : Bssid) (w : Which) (a : Addr) : Type 0 where
  pub policy : IsSome (policy_at s b)
  pub room : IsListed s b w a ⊎ (list_count s b w < MAX_LISTED)
  pub allowed : NoneDeniedAfter s b (ListAdd b w a)
