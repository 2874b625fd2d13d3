-- Rows of changes that are made where the table stands, and those that make no new row (own).
use Rattle.std.specs.Prelude.{◌≡◌, List, [], ◌∷◌, ◌++◌, length, IsSome, ◌⊎◌}
use Rattle.std.specs.List.{AllByRecursion}
use Rattle.apd_base.specs.State.{State, station_at, policy_at}
use Rattle.apd_record.specs.Meaning.{meaning}
use Rattle.apd_record.specs.declared.change.Change.{Change}
use Rattle.apd_record.specs.declared.change.Change.TheVariants.{Put, Drop, Cursor}
use Rattle.apd_table.specs.NewRow.{IsNewRow}

abbrev pub IsDrop : Change → Type 0
IsDrop (Drop b a) = Unit {0}
IsDrop other = ⊥

abbrev pub AreDrops : List Change → Type 0
AreDrops changes = AllByRecursion IsDrop changes

-- a station's row in the place of its old one
abbrev pub IsPutOver : Change → State → Type 0
IsPutOver (Put b a station) s = IsSome (station_at s b a)
IsPutOver other s = ⊥

-- the identifier given last at a BSSID with a policy: it is never refused, and wants no memory
abbrev pub IsCursorThere : Change → State → Type 0
IsCursorThere (Cursor b last) s = IsSome (policy_at s b)
IsCursorThere other s = ⊥

-- any change and drops behind it, or a row over an old one and one change more
abbrev pub AreFewInPlace : List Change → State → Type 0
AreFewInPlace [] s = Unit {0}
AreFewInPlace (change ∷ changes) s = AreDrops changes ⊎ (IsPutOver change s × (length changes ≡ 1))

-- such changes and a cursor behind them
abbrev pub AreFewAndCursor : List Change → State → Type 0
AreFewAndCursor changes s =
    (few : List Change)
    × (cursor : Change) × (changes ≡ few ++ (cursor ∷ [])) × AreFewInPlace few s × IsCursorThere cursor s

-- either of these
abbrev pub IsInPlace : List Change → State → Type 0
IsInPlace changes s = AreFewInPlace changes s ⊎ AreFewAndCursor changes s

-- no change makes a row where, when its turn comes, none is
abbrev pub NoNewRow : List Change → State → Type 0
NoNewRow [] s = Unit {0}
NoNewRow (change ∷ changes) s = (¬ (IsNewRow change s)) × NoNewRow changes (meaning change s)
