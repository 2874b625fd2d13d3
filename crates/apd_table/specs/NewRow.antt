-- What changes find where they write: a station's row, and no row, so that they may want memory.
use Rattle.std.specs.Prelude.{◌≡◌, Option, None}
use Rattle.apd_base.specs.State.{State, station_at, policy_at, IsListed}
use Rattle.apd_record.specs.declared.change.Change.{Change}
use Rattle.apd_base.specs.declared.station.Station.{Station}
use Rattle.apd_record.specs.declared.change.Change.TheVariants.{Put, Drop, ListAdd, Policy}

abbrev pub IsNewRow : Change → State → Type 0
IsNewRow (Put b a station) s = station_at s b a ≡ None
IsNewRow (ListAdd b w a) s = ¬ (IsListed s b w a)
IsNewRow (Policy b policy) s = policy_at s b ≡ None
IsNewRow other s = ⊥

-- this is the station's row that a change writes over or takes out
abbrev pub IsOldRow : Change → Option Station → State → Type 0
IsOldRow (Put b a station) old s = old ≡ station_at s b a
IsOldRow (Drop b a) old s = old ≡ station_at s b a
IsOldRow other old s = Unit {0}
