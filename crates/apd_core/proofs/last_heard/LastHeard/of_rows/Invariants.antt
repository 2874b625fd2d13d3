use Rattle.std.proofs.Common.{◌≡◌, drop}
use Rattle.std.specs.FinMap as map
use Rattle.apd_core.proofs.AllHeard.{all_heard}
use Rattle.apd_core.proofs.last_heard.LastHeard.of_rows.Given as goal

-- the BSSIDs that are left lead where all of them lead
abbrev pub invariant-loop-place : goal.invariant-loop-place
invariant-loop-place l = record {
  heard : all_heard l.moment l.table (drop l.place (map.keys l.table.policies)) l.moments ≡ all_heard l.moment l.table (map.keys l.table.policies) map.empty;
}
