use Rattle.std.proofs.Common.{◌≡◌, take}
use Rattle.std.specs.Prelude.{slice_get}
use Rattle.std.specs.List.{flat_map}
use Rattle.apd_ctrl.specs.Texts.{listed_addresses}
use Rattle.apd_maintenance.specs.Listing.{listed_line}
use Rattle.apd_maintenance.proofs.listing.list_lines.Given as goal

-- the next address, and the lines of those before it
abbrev pub invariant-loop-place : goal.invariant-loop-place
invariant-loop-place l = record {
  next : l.next ≡ slice_get (listed_addresses l.fn.table l.fn.bssid l.fn.which) l._place;
  told : l.text.items ≡ flat_map (listed_line l.fn.which) (take l._place (listed_addresses l.fn.table l.fn.bssid l.fn.which));
}
