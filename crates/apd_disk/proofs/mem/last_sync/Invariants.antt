use Rattle.std.proofs.Common.{◌≤◌, length, drop, IsTrue}
use Rattle.apd_disk.specs.Mem.{has_no_sync}
use Rattle.apd_disk.proofs.mem.last_sync.Given as goal

-- no sync was passed
abbrev pub invariant-loop-end : goal.invariant-loop-end
invariant-loop-end l = (l.end ≤ length l.calls) × IsTrue (has_no_sync (drop l.end l.calls))

abbrev pub decreases-loop-end : goal.decreases-loop-end
decreases-loop-end l = l.end
