use Rattle.std.proofs.Common.{◌≡◌, take}
use Rattle.apd_maintenance.specs.Listing.{station_lines}
use Rattle.apd_maintenance.proofs.listing.station_lines.Given as goal

-- the lines of the stations so far
abbrev pub invariant-loop-addr : goal.invariant-loop-addr
invariant-loop-addr l = l.text.items ≡ station_lines l.table l.bssid (take l.addr-index l.addresses)
