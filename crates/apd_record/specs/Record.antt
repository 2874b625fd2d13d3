-- The records of a journal: the bytes of a change, little-endian (own).
use Rattle.std.specs.Prelude.{ℕ, List, [], ◌∷◌, ◌++◌}
use Rattle.std.specs.Int.{to_le_bytes, w16}
use Rattle.apd_base.specs.Mode.{mode_number}
use Rattle.apd_base.specs.State.{which_number}
use Rattle.apd_base.specs.declared.station.Station.{Station}
use Rattle.apd_base.specs.declared.station.Station.TheVariants.{Authenticated, Associated}
use Rattle.apd_record.specs.declared.change.Change.{Change}
use Rattle.apd_record.specs.declared.change.Change.TheVariants.{Put, Drop, ListAdd, ListDel, ListClear, Policy, Cursor}

-- the kind of a station, 1 or 2, its identifier, capability and listen interval
abbrev pub station_bytes : Station → List ℕ
station_bytes Authenticated = 1 ∷ to_le_bytes w16 0 ++ to_le_bytes w16 0 ++ to_le_bytes w16 0
station_bytes (Associated x) =
    2 ∷ to_le_bytes w16 x.aid.number ++ to_le_bytes w16 x.capability ++ to_le_bytes w16 x.listen_interval

-- the bytes of a change: its tag, then its fields
abbrev pub record_of : Change → List ℕ
record_of (Put b a station) = 1 ∷ b.0.0 ++ a.0 ++ station_bytes station
record_of (Drop b a) = 2 ∷ b.0.0 ++ a.0
record_of (ListAdd b w a) = 3 ∷ b.0.0 ++ which_number w ∷ a.0
record_of (ListDel b w a) = 4 ∷ b.0.0 ++ which_number w ∷ a.0
record_of (ListClear b w) = 5 ∷ b.0.0 ++ which_number w ∷ []
record_of (Policy b policy) = 6 ∷ b.0.0 ++ mode_number policy.mode ∷ to_le_bytes w16 policy.max.number
record_of (Cursor b last) = 7 ∷ b.0.0 ++ to_le_bytes w16 last.number

-- the bytes of changes: their records, one behind another
abbrev pub records_of : List Change → List ℕ
records_of [] = []
records_of (change ∷ changes) = record_of change ++ records_of changes
