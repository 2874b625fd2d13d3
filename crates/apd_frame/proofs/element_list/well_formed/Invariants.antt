use Rattle.std.proofs.Common.{◌≡◌, length}
use Rattle.apd_frame.specs.Elements.{well_formed}
use Rattle.apd_frame.proofs.element_list.well_formed.Given as goal

-- what is left is well formed where all is
abbrev pub invariant-loop-behind : goal.invariant-loop-behind
invariant-loop-behind l = well_formed l.rest ≡ well_formed l.fn.bytes

abbrev pub decreases-loop-behind : goal.decreases-loop-behind
decreases-loop-behind l = length l.rest
