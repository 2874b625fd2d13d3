use Rattle.std.proofs.Common.{◌≡◌, length}
use Rattle.apd_script.proofs.on_store.radios.Given as goal

-- so many were made so far
abbrev pub invariant-loop-place : goal.invariant-loop-place
invariant-loop-place l = length l.radios.items ≡ l._place
