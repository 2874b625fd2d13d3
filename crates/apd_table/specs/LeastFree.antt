-- Association identifiers that are free at a BSSID, and which of them is given next.
use Rattle.std.specs.Prelude.{◌≡◌, ◌≢◌, ℕ, ◌<◌, ◌≤◌, ◌⊎◌, Option, Some, None}
use Rattle.apd_base.specs.declared.address.Addr.{Addr}
use Rattle.apd_base.specs.declared.address.Bssid.{Bssid}
use Rattle.apd_base.specs.declared.limits.TheConstants.{MAX_STATIONS}
use Rattle.apd_base.specs.declared.station.StationNumber.{StationNumber}
use Rattle.apd_base.specs.State.{State, aid_at, cursor_at}

-- a station of the BSSID has the identifier
abbrev pub IsTaken : State → Bssid → ℕ → Type 0
IsTaken s b i = (a : Addr) × (aid_at s b a ≡ Some i)

-- an identifier that none has
pub record IsFree (s : State) (b : Bssid) (i : ℕ) : Type 0 where
  pub low : 1 ≤ i
  pub high : i ≤ MAX_STATIONS
  pub free : (a : Addr) → aid_at s b a ≢ Some i

-- each identifier above a number is taken
abbrev pub AreTakenAbove : State → Bssid → ℕ → Type 0
AreTakenAbove s b last = (i : ℕ) → last < i → i ≤ MAX_STATIONS → IsTaken s b i

-- the least identifier above a number that none has
pub record IsLeastFreeAbove (s : State) (b : Bssid) (last i : ℕ) : Type 0 where
  pub low : last < i
  pub high : i ≤ MAX_STATIONS
  pub free : (a : Addr) → aid_at s b a ≢ Some i
  pub smaller : (j : ℕ) → last < j → j < i → IsTaken s b j

-- the least of all
abbrev pub IsLeastFree : State → Bssid → ℕ → Type 0
IsLeastFree s b i = IsLeastFreeAbove s b 0 i

-- the identifier that was given last, 0 where none was yet
abbrev pub number_or_0 : Option StationNumber → ℕ
number_or_0 None = 0
number_or_0 (Some last) = last.number

abbrev pub last_given : State → Bssid → ℕ
last_given s b = number_or_0 (cursor_at s b)

-- the one to give next: the least above the one given last; where each above it is taken, the least of all
abbrev pub IsNextFree : State → Bssid → ℕ → Type 0
IsNextFree s b i =
    IsLeastFreeAbove s b (last_given s b) i ⊎ (AreTakenAbove s b (last_given s b) × IsLeastFree s b i)
