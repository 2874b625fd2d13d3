use Rattle.std.proofs.Common.{◌≡◌, ◌++◌, drop}
use Rattle.apd_ctrl.specs.Escapes.{escaped_text}
use Rattle.apd_ctrl.proofs.escapes.push_escaped.Given as goal

-- what is written so far, and what is left to write
abbrev pub invariant-loop-byte : goal.invariant-loop-byte
invariant-loop-byte l = l.out.items ++ escaped_text (drop l.byte-index l.bytes) ≡ l.fn.out.items ++ escaped_text l.bytes
