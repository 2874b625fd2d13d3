use Rattle.std.proofs.Common.{◌≡◌, ◌++◌, take}
use Rattle.apd_table.specs.Snapshot.{lists_of_rows}
use Rattle.apd_table.proofs.snapshot.add_lists.Given as goal

-- the rows so far
abbrev pub invariant-loop-row : goal.invariant-loop-row
invariant-loop-row l = l.changes ≡ l.fn.changes ++ lists_of_rows (take l.row-index l.rows)
