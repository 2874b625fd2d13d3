use Rattle.std.proofs.Common.{◌≡◌, true, drop, IsSome, ◌⊎◌}
use Rattle.std.specs.FinMap as map
use Rattle.apd_core.proofs.Words.{Addr, AreLaidDown, Bssid, is_put_of, list_any, puts_row}
use Rattle.apd_core.proofs.last_heard.LastHeard.lay_all.Given as goal

-- a row that is put has a moment, or is put by one of the changes that are left
abbrev pub invariant-loop-change : goal.invariant-loop-change
invariant-loop-change l = record {
  kept : AreLaidDown l.changes l.initial.self l.self;
  there : (k : Bssid × Addr) → puts_row l.changes k ≡ true → (list_any (is_put_of k) (drop l.change-index l.changes) ≡ true) ⊎ IsSome (map.get l.self k);
}
