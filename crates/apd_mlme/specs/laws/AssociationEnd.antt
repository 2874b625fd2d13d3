-- A station whose association ends is told so, unless it ended it itself.
use Rattle.std.specs.Prelude.{◌≡◌, List, ◌⊎◌}
use Rattle.std.specs.List.{Contains}
use Rattle.apd_base.specs.declared.address.Addr.{Addr}
use Rattle.apd_base.specs.declared.address.Bssid.{Bssid}
use Rattle.apd_frame.specs.Contents.{Contents, authentication, association_request, reassociation_request, probe_request, disassociation, deauthentication, uplink}
use Rattle.apd_frame.specs.declared.codes.Reason.{Reason}
use Rattle.apd_mlme.specs.declared.decision.Recipient.{Recipient}
use Rattle.apd_mlme.specs.declared.decision.Out.{Out}
use Rattle.apd_base.specs.declared.address.TheConstants.{BROADCAST}
use Rattle.apd_event.specs.Happening.{Happening, Heard, Kick, ListEdit, Expire, Configure}
use Rattle.apd_mlme.specs.rules.Leaving as told
use Rattle.apd_mlme.specs.Outs.{reply_out}

-- a frame with which a station leaves
abbrev pub IsDeparture : Contents → Addr → Type 0
IsDeparture (disassociation d reason) a = d ≡ a
IsDeparture (deauthentication d reason) a = d ≡ a
IsDeparture (authentication request) a = ⊥
IsDeparture (association_request request) a = ⊥
IsDeparture (reassociation_request request) a = ⊥
IsDeparture (probe_request request) a = ⊥
IsDeparture (uplink d) a = ⊥

-- the station left the BSSID itself
abbrev pub HasLeft : Happening → Bssid → Addr → Type 0
HasLeft (Heard c frame) b a = (c ≡ b) × IsDeparture frame a
HasLeft (Kick c to reason deauth tag) b a = ⊥
HasLeft (ListEdit c which edit tag) b a = ⊥
HasLeft (Expire c d) b a = ⊥
HasLeft (Configure c accept deny) b a = ⊥

-- a frame to this address is meant for a station: it is the station's own, or the broadcast address (9.2.4.3.3). A
-- command may name another group's address: that frame is sent too, and counts as meant for nobody who has a row (own)
abbrev pub IsMeant : Addr → Addr → Type 0
IsMeant to a = (to ≡ a) ⊎ (to ≡ BROADCAST)

-- a frame tells the station that its association, or its authentication, is at an end
abbrev pub IsToldOfEnd : List (Recipient × Out) → Bssid → Addr → Type 0
IsToldOfEnd outs b a =
    (to : Addr) × IsMeant to a × (reason : Reason)
    × (Contains outs (reply_out (told.disassociation b to reason))
    ⊎ Contains outs (reply_out (told.deauthentication b to reason)))
