use Rattle.std.proofs.Common.{◌≡◌, ◌++◌, take}
use Rattle.apd_table.specs.Snapshot.{cursors_of_rows}
use Rattle.apd_table.proofs.snapshot.add_cursors.Given as goal

-- the rows so far
abbrev pub invariant-loop-row : goal.invariant-loop-row
invariant-loop-row l = l.changes ≡ l.fn.changes ++ cursors_of_rows (take l.row-index l.rows)
