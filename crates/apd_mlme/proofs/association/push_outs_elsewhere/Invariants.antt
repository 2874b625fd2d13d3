use Rattle.std.proofs.Common.{◌≡◌, ◌++◌, take}
use Rattle.apd_mlme.specs.rules.Association.{outs_elsewhere}
use Rattle.apd_mlme.proofs.association.push_outs_elsewhere.Given as goal

-- the outs are those before, and those of the BSSIDs so far
abbrev pub invariant-loop-other : goal.invariant-loop-other
invariant-loop-other l = record {
  outs : l.outs ≡ l.fn.outs ++ outs_elsewhere l.confs l.sender (take l.other-index l.others);
}
