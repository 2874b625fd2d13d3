use Rattle.std.proofs.Common.{◌≡◌, ℕ, ◌<◌, ◌≤◌, take, drop, length, None}
use Rattle.std.specs.Prelude.{T}
use Rattle.std.specs.FinMap.{is_sorted, from_sorted}
use Rattle.apd_base.specs.Addr.{addr_cmp}
use Rattle.apd_base.specs.declared.limits.TheConstants.{MAX_LISTED}
use Rattle.apd_conf.specs.Lines.{lines}
use Rattle.apd_conf.specs.ListFile.{addresses_in, fault_at}
use Rattle.apd_conf.proofs.list_file.rows_of.Given as goal

-- the lines so far are not faulty, and these are their addresses
abbrev pub invariant-loop-line : goal.invariant-loop-line
invariant-loop-line l = record {
  left : l.line-iterator ≡ drop l.number (lines l.fn.file);
  few : l.number ≤ length (lines l.fn.file);
  sorted : T (is_sorted addr_cmp l.list);
  addresses : from_sorted {R = addr_cmp} l.list ≡ addresses_in (take l.number (lines l.fn.file));
  within : length l.list ≤ MAX_LISTED;
  faultless : (n : ℕ) → n < l.number → fault_at (lines l.fn.file) n ≡ None;
}
