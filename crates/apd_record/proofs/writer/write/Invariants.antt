use Rattle.std.proofs.Common.{◌≡◌, take}
use Rattle.apd_record.specs.Record.{records_of}
use Rattle.apd_record.proofs.writer.write.Given as goal

-- the records so far
abbrev pub invariant-loop-change : goal.invariant-loop-change
invariant-loop-change l = l.bytes.items ≡ records_of (take l.change-index l.changes)
