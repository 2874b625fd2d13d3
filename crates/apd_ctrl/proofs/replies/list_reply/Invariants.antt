use Rattle.std.proofs.Common.{◌≡◌, take}
use Rattle.std.specs.Prelude.{slice_get}
use Rattle.std.specs.List.{flat_map}
use Rattle.apd_ctrl.specs.Texts.{listed_addresses, listed_line}
use Rattle.apd_ctrl.proofs.replies.list_reply.Given as goal

-- the next address, and the lines of those before it
abbrev pub invariant-loop-place : goal.invariant-loop-place
invariant-loop-place l = record {
  next : l.next ≡ slice_get (listed_addresses l.fn.table l.fn.bssid l.fn.which) l._place;
  told : l.reply.items ≡ flat_map listed_line (take l._place (listed_addresses l.fn.table l.fn.bssid l.fn.which));
}
