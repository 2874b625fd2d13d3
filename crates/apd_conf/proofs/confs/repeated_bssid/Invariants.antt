use Rattle.std.proofs.Common.{ℕ, ◌<◌}
use Rattle.apd_conf.specs.Confs.{IsRepeatedAt, bssids}
use Rattle.apd_conf.proofs.confs.repeated_bssid.Given as goal

-- no place so far is repeated
abbrev pub invariant-loop-place : goal.invariant-loop-place
invariant-loop-place l = (p : ℕ) → p < l.place → ¬ (IsRepeatedAt (bssids l.list) p)
