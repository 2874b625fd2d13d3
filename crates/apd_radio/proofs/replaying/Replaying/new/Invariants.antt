use Rattle.std.proofs.Common.{◌+◌, ◌≤◌, length}
use Rattle.apd_radio.proofs.Reading.{IsRead}
use Rattle.apd_radio.proofs.replaying.Replaying.new.Given as goal

-- the lines so far stand for calls
abbrev pub invariant-loop-first : goal.invariant-loop-first
invariant-loop-first l = record {
  read : IsRead l.recording l.rest l.line l.frames.items;
  room : l.line + length l.rest ≤ length l.recording;
}

abbrev pub decreases-loop-first : goal.decreases-loop-first
decreases-loop-first l = length l.rest
