use Rattle.std.proofs.Common.{◌≡◌, drop}
use Rattle.apd_core.specs.Core.{after_all_settled}
use Rattle.apd_core.proofs.request_core.settle_front.Given as goal

-- so many are settled, and gone
abbrev pub invariant-loop-place : goal.invariant-loop-place
invariant-loop-place l = record {
  front : l.unsettled.items ≡ drop l.place l.fn.unsettled.items;
  held : l.held ≡ after_all_settled l.number l.place l.fn.held;
}
