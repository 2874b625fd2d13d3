use Rattle.std.proofs.Common.{◌≡◌, take, flat_map}
use Rattle.std.specs.FinMap as map
use Rattle.apd_base.specs.State.{aid_at}
use Rattle.apd_table.specs.Addresses.{addresses_at}
use Rattle.apd_slot.specs.Rows.{row_of}
use Rattle.apd_slot.proofs.resuming.associated_stations.Given as goal

-- the stations of the addresses so far
abbrev pub invariant-loop-addr : goal.invariant-loop-addr
invariant-loop-addr l = record {
  all : addresses_at l.table l.bssid ≡ l.addr-items;
  found : l.stations ≡ map.from_entries (flat_map (λ a. row_of a (aid_at l.table l.bssid a)) (take l.addr-index l.addr-items));
}
