use Rattle.std.proofs.Common.{◌≡◌, true, cond, drop, IsSome, Some}
use Rattle.std.specs.FinMap as map
use Rattle.apd_core.proofs.Words.{Addr, Bssid, is_put_of, list_any, puts_row}
use Rattle.apd_core.proofs.last_heard.LastHeard.stamp_all.Given as goal

-- what is left leads where all of it leads
abbrev pub invariant-loop-change : goal.invariant-loop-change
invariant-loop-change l = record {
  leads : (k : Bssid × Addr) → cond (list_any (is_put_of k) (drop l.change-index l.changes)) (Some l.moment) (map.get l.self k) ≡ cond (puts_row l.changes k) (Some l.moment) (map.get l.initial.self k);
  there : (k : Bssid × Addr) → puts_row l.changes k ≡ true → IsSome (map.get l.self k);
}
