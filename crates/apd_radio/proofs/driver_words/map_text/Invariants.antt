use Rattle.std.proofs.Common.{◌≡◌, ◌++◌, take}
use Rattle.std.specs.Prelude.{codes, flat_map}
use Rattle.std.specs.Fmt.{decimal}
use Rattle.apd_radio.specs.Drivers.{station_line}
use Rattle.apd_radio.proofs.driver_words.map_text.Given as goal

-- the lines so far
abbrev pub invariant-loop-row : goal.invariant-loop-row
invariant-loop-row l = l.text.items ≡ (codes "map " ++ decimal l.fn.number ++ codes " down") ++ flat_map station_line (take l.row-index l.stations)
