use Rattle.std.proofs.Common.{◌≡◌, take}
use Rattle.std.specs.Prelude.{map}
use Rattle.std.specs.List.{flat_map}
use Rattle.apd_mlme.proofs.Words.{Drop, UNSPECIFIED, outs_of_drop}
use Rattle.apd_mlme.proofs.leaving.drop_denied.Given as goal

-- the changes and outs so far are those of the addresses so far
abbrev pub invariant-loop-addr : goal.invariant-loop-addr
invariant-loop-addr l = record {
  changes : l.changes ≡ map (λ a. Drop l.bssid a) (take l.addr-index l.denied);
  outs : l.outs ≡ flat_map (λ a. outs_of_drop l.table l.bssid a UNSPECIFIED) (take l.addr-index l.denied);
}
