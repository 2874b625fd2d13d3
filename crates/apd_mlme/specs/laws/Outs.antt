-- What leaves: what a frame says of its receiver, and what a driver is told, is so in the state after the event; and it
-- goes to a radio that is there.
use Rattle.std.specs.Prelude.{◌≡◌, List, Some, None, IsSome, IsSomeAnd}
use Rattle.std.specs.List.{AllByRecursion}
use Rattle.apd_base.specs.declared.address.Addr.{Addr}
use Rattle.apd_base.specs.declared.address.Bssid.{Bssid}
use Rattle.apd_base.specs.State.{State, station_at, aid_at}
use Rattle.apd_conf.specs.declared.conf.Conf.{Conf}
use Rattle.apd_conf.specs.Confs.{conf_at}
use Rattle.apd_frame.specs.declared.codes.Status.TheVariants.{Success}
use Rattle.apd_frame.specs.declared.replies.AssociationResponse.{AssociationResponse}
use Rattle.apd_frame.specs.declared.replies.Reply.{Reply}
use Rattle.apd_frame.specs.declared.replies.ReplyBody.{ReplyBody}
use Rattle.apd_frame.specs.declared.replies.ReplyBody.TheVariants.{Auth, Assoc, Reassoc, Probe, Disassoc, Deauth}
use Rattle.apd_frame.specs.Wire.{wire}
use Rattle.apd_mlme.specs.declared.decision.Recipient.{Recipient}
use Rattle.apd_mlme.specs.declared.decision.Recipient.TheVariants.{Radio, Control}
use Rattle.apd_mlme.specs.declared.decision.Out.{Out}
use Rattle.apd_mlme.specs.declared.decision.Out.TheVariants.{Install, Remove, Frame, Text}
use Rattle.apd_mlme.specs.laws.AssociationEnd.{IsMeant}

-- success says that the station is associated, with the identifier that the response carries
abbrev pub AssociationIsTrue : State → Bssid → Addr → AssociationResponse → Type 0
AssociationIsTrue s b a response = response.status ≡ Success
    → IsSomeAnd response.aid (λ aid. aid_at s b a ≡ Some aid.number)

-- what a frame's body says of the station that it is for
abbrev pub BodyIsTrue : State → Bssid → Addr → ReplyBody → Type 0
-- success says that the station has a row
BodyIsTrue s b a (Auth algorithm transaction status) = status ≡ Success → IsSome (station_at s b a)
BodyIsTrue s b a (Assoc response) = AssociationIsTrue s b a response
BodyIsTrue s b a (Reassoc response) = AssociationIsTrue s b a response
-- nothing
BodyIsTrue s b a (Probe beacon_interval ssid rates channel) = Unit {0}
-- that it is not associated
BodyIsTrue s b a (Disassoc reason) = aid_at s b a ≡ None
-- that it has no row
BodyIsTrue s b a (Deauth reason) = station_at s b a ≡ None

abbrev pub OutIsTrue : State → Recipient × Out → Type 0
OutIsTrue s (Radio b, Install a aid) = aid_at s b a ≡ Some aid.number
OutIsTrue s (Radio b, Remove a) = aid_at s b a ≡ None
OutIsTrue s (Radio b, Frame bytes) = (reply : Reply) × (reply.bssid ≡ b) × (bytes ≡ wire reply)
    × BodyIsTrue s b reply.to reply.body
-- a radio has no command to answer, and whoever gave one has no driver
OutIsTrue s (Radio b, Text tag bytes) = ⊥
OutIsTrue s (Control, Install a aid) = ⊥
OutIsTrue s (Control, Remove a) = ⊥
OutIsTrue s (Control, Frame bytes) = ⊥
-- what an answer says is a law of its own
OutIsTrue s (Control, Text tag bytes) = Unit {0}

abbrev pub OutsAreTrue : State → List (Recipient × Out) → Type 0
OutsAreTrue s outs = AllByRecursion (OutIsTrue s) outs

-- the same of everyone whom a frame is meant for: one to the broadcast address is meant for every station (9.2.4.3.3)
abbrev pub OutIsTrueForAll : State → Recipient × Out → Type 0
OutIsTrueForAll s (Radio b, Frame bytes) =
    (reply : Reply) × (reply.bssid ≡ b) × (bytes ≡ wire reply)
    × ((a : Addr) → IsMeant reply.to a → BodyIsTrue s b a reply.body)
-- nothing else is a frame
OutIsTrueForAll s (Radio b, Install a aid) = Unit {0}
OutIsTrueForAll s (Radio b, Remove a) = Unit {0}
OutIsTrueForAll s (Radio b, Text tag bytes) = Unit {0}
OutIsTrueForAll s (Control, out) = Unit {0}

abbrev pub OutsAreTrueForAll : State → List (Recipient × Out) → Type 0
OutsAreTrueForAll s outs = AllByRecursion (OutIsTrueForAll s) outs

-- to a radio that is there: the one of a configured BSSID
abbrev pub RecipientIsThere : List Conf → Recipient × Out → Type 0
RecipientIsThere confs (Radio b, out) = IsSome (conf_at confs b)
-- whoever gave a command is there
RecipientIsThere confs (Control, out) = Unit {0}

abbrev pub RecipientsAreThere : List Conf → List (Recipient × Out) → Type 0
RecipientsAreThere confs outs = AllByRecursion (RecipientIsThere confs) outs
