use Rattle.std.proofs.Common.{◌≡◌, take}
use Rattle.std.specs.Prelude.{map}
use Rattle.std.specs.List.{flat_map}
use Rattle.apd_mlme.proofs.Words.{Drop, removal}
use Rattle.apd_mlme.proofs.kick.kick_of_all.Given as goal

-- the changes and outs so far are those of the addresses so far
abbrev pub invariant-loop-addr : goal.invariant-loop-addr
invariant-loop-addr l = record {
  changes : l.changes ≡ map (λ a. Drop l.bssid a) (take l.addr-index l.addr-items);
  outs : l.outs ≡ flat_map (removal l.table l.bssid) (take l.addr-index l.addr-items);
}
