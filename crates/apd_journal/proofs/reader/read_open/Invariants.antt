use Rattle.std.proofs.Common.{length}
use Rattle.apd_journal.proofs.Parsing.{HasRead}
use Rattle.apd_journal.proofs.reader.read_open.Given as goal

-- what was read so far
abbrev pub invariant-loop-rest : goal.invariant-loop-rest
invariant-loop-rest l = HasRead l.bytes l.fn.changes l.rest l.changes

abbrev pub decreases-loop-rest : goal.decreases-loop-rest
decreases-loop-rest l = length l.rest
