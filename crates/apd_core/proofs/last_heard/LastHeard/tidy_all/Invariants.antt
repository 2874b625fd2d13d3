use Rattle.std.proofs.Common.{◌≡◌, drop, is_some}
use Rattle.std.specs.FinMap as map
use Rattle.apd_core.proofs.Words.{Addr, Bssid, is_of, list_any, moment_left, touches_row}
use Rattle.apd_core.proofs.last_heard.LastHeard.tidy_all.Given as goal

-- what is left leads where all of it leads
abbrev pub invariant-loop-change : goal.invariant-loop-change
invariant-loop-change l =
    (k : Bssid × Addr) → moment_left (list_any (is_of k) (drop l.change-index l.changes)) (is_some (map.get l.table.stations k)) (map.get l.self k) ≡ moment_left (touches_row l.changes k) (is_some (map.get l.table.stations k)) (map.get l.initial.self k)
