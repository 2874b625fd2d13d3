use Rattle.std.proofs.Common.{◌≡◌, ◌++◌, take}
use Rattle.apd_mlme.specs.rules.Configuration.{additions}
use Rattle.apd_mlme.proofs.configuration.push_additions.Given as goal

-- the changes are those before, and those of the addresses so far
abbrev pub invariant-loop-addr : goal.invariant-loop-addr
invariant-loop-addr l = record {
  changes : l.changes ≡ l.fn.changes ++ additions l.bssid l.which (take l.addr-index l.addresses);
}
