use Rattle.std.proofs.Common.{◌≡◌, ◌++◌, length}
use Rattle.apd_record.specs.Ranges.{AreChanges}
use Rattle.apd_record.specs.Record.{records_of}
use Rattle.apd_record.proofs.reader.read_all.Given as goal

-- what was read, and what is left to read
abbrev pub invariant-loop-rest : goal.invariant-loop-rest
invariant-loop-rest l = record {
  all : l.bytes ≡ records_of l.changes.items ++ l.rest;
  range : AreChanges l.changes.items;
}

abbrev pub decreases-loop-rest : goal.decreases-loop-rest
decreases-loop-rest l = length l.rest
