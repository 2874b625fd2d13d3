use Rattle.std.proofs.Common.{◌≡◌, take}
use Rattle.std.specs.Prelude.{filter}
use Rattle.std.specs.FinMap as map
use Rattle.apd_mlme.specs.rules.Association.{is_elsewhere}
use Rattle.apd_mlme.proofs.association.bssids_elsewhere.Given as goal

-- those among the BSSIDs so far
abbrev pub invariant-loop-place : goal.invariant-loop-place
invariant-loop-place l = record {
  others : l.others ≡ filter (is_elsewhere l.table l.bssid l.sender) (take l.place (map.keys l.table.policies));
}
