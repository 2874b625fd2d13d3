use Rattle.std.proofs.Common.{◌≡◌, ◌++◌, take}
use Rattle.apd_mlme.specs.rules.Association.{put_backs}
use Rattle.apd_mlme.proofs.association.push_put_backs.Given as goal

-- the changes are those before, and those of the BSSIDs so far
abbrev pub invariant-loop-other : goal.invariant-loop-other
invariant-loop-other l = record {
  changes : l.changes ≡ l.fn.changes ++ put_backs l.sender (take l.other-index l.others);
}
