use Rattle.std.proofs.Common.{◌≡◌, ◌++◌, map as list_map}
use Rattle.apd_table.specs.Snapshot.{station_change}
use Rattle.apd_table.proofs.snapshot.add_stations.Given as goal

-- with those of the rows that are left they are all
abbrev pub invariant-loop-key : goal.invariant-loop-key
invariant-loop-key l = l.changes ++ list_map station_change l.key-iterator ≡ l.fn.changes ++ list_map station_change l.rows.entries
