use Rattle.std.proofs.Common.{◌≡◌, drop}
use Rattle.apd_core.specs.for_proofs.LaidDown.{heard_at}
use Rattle.apd_core.proofs.last_heard.LastHeard.put_all.Given as goal

-- what is left leads where all of it leads
abbrev pub invariant-loop-addr : goal.invariant-loop-addr
invariant-loop-addr l = record {
  heard : heard_at l.moment l.bssid (drop l.addr-index l.addrs) l.self ≡ heard_at l.moment l.bssid l.addrs l.initial.self;
}
