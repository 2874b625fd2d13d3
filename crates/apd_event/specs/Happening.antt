-- What happened at a BSSID: an event with its lists and its frame written out, since a definition can't make a
-- reference.
use Rattle.std.specs.Prelude.{ℕ, Bool, List}
use Rattle.apd_base.specs.declared.address.Addr.{Addr}
use Rattle.apd_base.specs.declared.address.Bssid.{Bssid}
use Rattle.apd_base.specs.declared.station.Which.{Which}
use Rattle.apd_frame.specs.Contents.{Contents, contents}
use Rattle.apd_frame.specs.declared.codes.Reason.{Reason}
use Rattle.apd_event.specs.declared.event.Edit.{Edit}
use Rattle.apd_event.specs.declared.event.Event.{Event}
use Rattle.apd_event.specs.declared.event.Event.TheVariants as event

pub data Happening : Type 0 where
  -- its radio received a frame
  Heard : Bssid → Contents → Happening
  -- a control command sends a station away, or all where the address is the broadcast address, with this reason; it is
  -- told by a deauthentication, or else by a disassociation; and the tag of the answer
  Kick : Bssid → Addr → Reason → Bool → ℕ → Happening
  -- a control command edits one of its lists; and the tag of the answer
  ListEdit : Bssid → Which → Edit → ℕ → Happening
  -- nothing was heard from a station for too long
  Expire : Bssid → Addr → Happening
  -- it starts with its configuration, and these are the addresses of its accept list and of its deny list
  Configure : Bssid → List Addr → List Addr → Happening

abbrev pub happening : Event → Happening
happening (event.Heard b frame) = Heard b (contents frame)
happening (event.Kick b to reason deauth tag) = Kick b to reason deauth tag
happening (event.ListEdit b which edit tag) = ListEdit b which edit tag
happening (event.Expire b a) = Expire b a
happening (event.Configure b accept deny) = Configure b accept.now deny.now

-- where it happened
abbrev pub bssid_of : Happening → Bssid
bssid_of (Heard b frame) = b
bssid_of (Kick b to reason deauth tag) = b
bssid_of (ListEdit b which edit tag) = b
bssid_of (Expire b a) = b
bssid_of (Configure b accept deny) = b
