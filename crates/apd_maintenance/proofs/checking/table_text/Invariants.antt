use Rattle.std.proofs.Common.{◌≡◌, take}
use Rattle.std.specs.FinMap as map
use Rattle.std.specs.List.{flat_map}
use Rattle.apd_maintenance.specs.Checking.{bss_text}
use Rattle.apd_maintenance.proofs.checking.table_text.Given as goal

-- the texts of the BSSIDs so far
abbrev pub invariant-loop-place : goal.invariant-loop-place
invariant-loop-place l = l.text.items ≡ flat_map (bss_text l.fn.detail l.fn.table) (take l.place (map.keys l.fn.table.policies))
