-- What a frame says, with its elements written out: a definition can't build a slice, so definitions speak of these.
use Rattle.std.specs.Prelude.{ℕ, List, Result, Ok, Err}
use Rattle.apd_base.specs.declared.address.Addr.{Addr}
use Rattle.apd_frame.specs.declared.codes.Reason.{Reason}
use Rattle.apd_frame.specs.declared.element.Element.{Element}
use Rattle.apd_frame.specs.declared.ignored.Ignored.{Ignored}
use Rattle.apd_frame.specs.declared.received.Authentication.{Authentication}
use Rattle.apd_frame.specs.declared.received.Association.{Association}
use Rattle.apd_frame.specs.declared.received.Reassociation.{Reassociation}
use Rattle.apd_frame.specs.declared.received.Probe.{Probe}
use Rattle.apd_frame.specs.declared.received.Frame.{Frame}
use Rattle.apd_frame.specs.declared.received.Frame.TheVariants as frame

-- an association request (IEEE Std 802.11-2016, 9.3.3.6)
pub record AssociationRequest : Type 0 where
  pub sender : Addr
  pub capability : ℕ
  pub listen_interval : ℕ
  pub elements : List ℕ

-- a reassociation request (9.3.3.8)
pub record ReassociationRequest : Type 0 where
  pub sender : Addr
  pub capability : ℕ
  pub listen_interval : ℕ
  pub current_ap : Addr
  pub elements : List ℕ

-- a probe request (9.3.3.10)
pub record ProbeRequest : Type 0 where
  pub sender : Addr
  pub elements : List ℕ

pub data Contents : Type 0 where
  authentication : Authentication → Contents
  association_request : AssociationRequest → Contents
  reassociation_request : ReassociationRequest → Contents
  probe_request : ProbeRequest → Contents
  -- the sender, and the reason that it gives
  disassociation : Addr → Reason → Contents
  deauthentication : Addr → Reason → Contents
  -- data for the access point, from the sender
  uplink : Addr → Contents

abbrev pub association : Association → AssociationRequest
association a =
    record {
      sender = a.sender;
      capability = a.capability;
      listen_interval = a.listen_interval;
      elements =
          a.elements.now;
    }

abbrev pub reassociation : Reassociation → ReassociationRequest
reassociation r = record {
  sender = r.sender;
  capability = r.capability;
  listen_interval = r.listen_interval;
  current_ap = r.current_ap;
  elements = r.elements.now;
}

abbrev pub probe : Probe → ProbeRequest
probe p = record { sender = p.sender; elements = p.elements.now }

abbrev pub contents : Frame → Contents
contents (frame.Auth a) = authentication a
contents (frame.Assoc a) = association_request (association a)
contents (frame.Reassoc r) = reassociation_request (reassociation r)
contents (frame.Probe p) = probe_request (probe p)
contents (frame.Disassoc sender reason) = disassociation sender reason
contents (frame.Deauth sender reason) = deauthentication sender reason
contents (frame.Uplink sender) = uplink sender

-- the same of a frame that may be ignored
abbrev pub outcome_contents : Result Frame Ignored → Result Contents Ignored
outcome_contents (Ok frame) = Ok (contents frame)
outcome_contents (Err reason) = Err reason

abbrev pub sender_of : Contents → Addr
sender_of (authentication a) = a.sender
sender_of (association_request a) = a.sender
sender_of (reassociation_request r) = r.sender
sender_of (probe_request p) = p.sender
sender_of (disassociation sender reason) = sender
sender_of (deauthentication sender reason) = sender
sender_of (uplink sender) = sender

-- an element's ID and body
abbrev pub element : Element → ℕ × List ℕ
element e = (e.id, e.body.now)
