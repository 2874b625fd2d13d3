-- The stations that the radio of a BSSID should have by a table (own).
use Rattle.std.specs.Prelude.{ℕ, List, [], ◌∷◌, flat_map, Option, None, Some}
use Rattle.std.specs.FinMap as map
use Rattle.apd_base.specs.declared.address.Addr.{Addr}
use Rattle.apd_base.specs.declared.address.Bssid.{Bssid}
use Rattle.apd_base.specs.State.{State, aid_at}
use Rattle.apd_table.specs.Addresses.{addresses_at}
use Rattle.apd_slot.specs.Wanted.{Stations}

-- a station with its identifier, if it has one
abbrev pub row_of : Addr → Option ℕ → List (Addr × ℕ)
row_of a None = []
row_of a (Some aid) = (a, aid) ∷ []

-- the associated stations of a BSSID, with their identifiers
abbrev pub installed_rows : State → Bssid → Stations
installed_rows s b = map.from_entries (flat_map (λ a. row_of a (aid_at s b a)) (addresses_at s b))

-- stations with one more, if it has an identifier
abbrev pub with_station : Addr → Option ℕ → Stations → Stations
with_station a None stations = stations
with_station a (Some aid) stations = map.insert stations a aid
