use Rattle.std.proofs.Common.{◌≡◌, ◌-◌, ◌^◌, length, take}
use Rattle.std.specs.Prelude.{min}
use Rattle.apd_record.specs.Ranges.{AreChanges}
use Rattle.apd_record.specs.Record.{records_of}
use Rattle.apd_record.proofs.writer.total_length.Given as goal

-- the length of the records so far, or the greatest number; and these changes are known
abbrev pub invariant-loop-change : goal.invariant-loop-change
invariant-loop-change l = record {
  total : l.total ≡ min (length (records_of (take l.change-index l.changes))) (2 ^ 64 - 1);
  known : AreChanges (take l.change-index l.changes);
}
