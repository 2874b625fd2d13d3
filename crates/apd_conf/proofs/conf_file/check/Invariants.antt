use Rattle.std.proofs.Common.{◌≡◌, ℕ, ◌<◌, ◌≤◌, drop, length, None}
use Rattle.apd_conf.specs.Lines.{lines}
use Rattle.apd_conf.specs.ConfFile.{fault_at}
use Rattle.apd_conf.proofs.conf_file.check.Given as goal

-- the lines so far are not faulty
abbrev pub invariant-loop-line : goal.invariant-loop-line
invariant-loop-line l = record {
  left : l.line-iterator ≡ drop l.number (lines l.fn.file);
  few : l.number ≤ length (lines l.fn.file);
  faultless : (n : ℕ) → n < l.number → fault_at (lines l.fn.file) n ≡ None;
}
