use Rattle.std.proofs.Common.{drop}
use Rattle.apd_store.proofs.Replayed.{Replayed}
use Rattle.apd_store.proofs.reading.table_of.Given as goal

abbrev pub invariant-loop-change : goal.invariant-loop-change
invariant-loop-change l = Replayed l.changes (drop l.change-index l.changes) l.table
