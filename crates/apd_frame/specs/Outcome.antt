-- What a list of octets is to the radio of a BSSID: a frame, or the reason why it is ignored.
use Rattle.std.specs.Prelude.{◌≡◌, ℕ, Bool, false, ◌+◌, ◌<◌, ◌==◌, ◌&&◌, ◌||◌, not, nat_lt, List, [], ◌∷◌, length, Option, Some, None, is_none, Result, Ok, Err, IsTrue, codes}
use Rattle.std.specs.List.{find}
use Rattle.apd_base.specs.declared.address.Addr.{Addr}
use Rattle.apd_base.specs.declared.limits.TheConstants.{MAX_FRAME}
use Rattle.apd_base.specs.declared.address.TheConstants.{BROADCAST}
use Rattle.apd_base.specs.declared.address.Bssid.{Bssid}
use Rattle.apd_frame.specs.declared.codes.Reason.{Reason}
use Rattle.apd_frame.specs.declared.kind.Kind.{Kind}
use Rattle.apd_frame.specs.declared.kind.Kind.TheVariants as kind
use Rattle.apd_frame.specs.declared.ignored.Ignored.{Ignored}
use Rattle.apd_frame.specs.declared.ignored.Ignored.TheVariants.{TooLong, Short, Version, Class, Fragment, Flags, Direction, Sender, Receiver, OtherBss, Subtype, Body}
use Rattle.apd_frame.specs.declared.received.Authentication.{Authentication}
use Rattle.apd_frame.specs.Contents.{Contents, AssociationRequest, ReassociationRequest, ProbeRequest, authentication, association_request, reassociation_request, probe_request, disassociation, deauthentication, uplink}
use Rattle.apd_frame.specs.Kinds.{is_data, is_management, is_of, kind_of, fixed_octets}
use Rattle.apd_frame.specs.Octets.{protocol_version, frame_type, to_ds, from_ds, more_fragments, protected_frame, order, fragment_number, sender, receiver, bssid, algorithm_number, transaction_number, status_field, reason_field, capability_information, listen_interval, association_elements, current_ap_address, reassociation_elements, probe_elements, is_group_address, is_same_address}

-- an address is the radio's own, or the broadcast address where a probe request may have it (9.3.3.2, 9.2.4.3.4)
abbrev pub is_for : List ℕ → Bssid → Addr → Bool
is_for f own a = is_same_address a own.0 || (is_of f kind.ProbeRequest && is_same_address a BROADCAST)

-- it ends before the fixed fields of its kind do
abbrev pub lacks_fields : List ℕ → Option Kind → Bool
lacks_fields f None = false
lacks_fields f (Some k) = nat_lt (length f) (24 + fixed_octets k)

-- where each reason holds, whatever else does
abbrev pub holds : List ℕ → Bssid → Ignored → Bool
-- more octets than a frame may have (own), and fewer than a header has
holds f own TooLong = nat_lt MAX_FRAME (length f)
holds f own Short = nat_lt (length f) 24
-- of another protocol version, and neither management nor data
holds f own Version = not (protocol_version f == 0)
holds f own Class = (frame_type f == 1) || (frame_type f == 3)
-- a part of a larger frame: one with more to come, or not the first
holds f own Fragment = more_fragments f || not (fragment_number f == 0)
-- management, encrypted or with an HT Control field
holds f own Flags = is_management f && (protected_frame f || order f)
-- data that no station sends to an access point
holds f own Direction = is_data f && not (to_ds f && not (from_ds f))
-- from a group, or from the radio itself
holds f own Sender = is_group_address (sender f) || is_same_address (sender f) own.0
-- to another receiver, and management of another BSS
holds f own Receiver = not (is_for f own (receiver f))
holds f own OtherBss = is_management f && not (is_for f own (bssid f))
-- of a kind that is not taken, and with less than the fixed fields of its kind
holds f own Subtype = is_none (kind_of f)
holds f own Body = lacks_fields f (kind_of f)

-- the reasons in order: the first that holds is told
abbrev pub reasons : List Ignored
reasons = TooLong ∷ Short ∷ Version ∷ Class ∷ Fragment ∷ Flags ∷ Direction ∷ Sender ∷ Receiver ∷ OtherBss ∷ Subtype
    ∷ Body ∷ []

-- what a frame of a kind says
abbrev pub contents_at : Kind → List ℕ → Contents
contents_at kind.Uplink f = uplink (sender f)
contents_at kind.AssociationRequest f = association_request (record {
  sender = sender f;
  capability = capability_information f;
  listen_interval = listen_interval f;
  elements = association_elements f;
})
contents_at kind.ReassociationRequest f = reassociation_request (record {
  sender = sender f;
  capability = capability_information f;
  listen_interval = listen_interval f;
  current_ap = current_ap_address f;
  elements = reassociation_elements f;
})
contents_at kind.ProbeRequest f = probe_request (record { sender = sender f; elements = probe_elements f })
contents_at kind.Disassociation f = disassociation (sender f) (record { 0 = reason_field f })
contents_at kind.Authentication f = authentication (record {
  sender = sender f;
  algorithm = algorithm_number f;
  transaction = transaction_number f;
  status = status_field f;
})
contents_at kind.Deauthentication f = deauthentication (sender f) (record { 0 = reason_field f })

-- a reason, or else what the frame says
abbrev pub unless : List ℕ → Option Ignored → Option Kind → Result Contents Ignored
unless f (Some reason) k = Err reason
unless f None (Some k) = Ok (contents_at k f)
-- this doesn't come: a frame of no kind has a reason
unless f None None = Err Subtype

-- the first reason that holds, or what the frame says
abbrev pub outcome : List ℕ → Bssid → Result Contents Ignored
outcome f own = unless f (find (holds f own) reasons) (kind_of f)

-- The same as a relation, without a search. The rank of a reason is how many come before it.
abbrev pub rank : Ignored → ℕ
rank TooLong = 0
rank Short = 1
rank Version = 2
rank Class = 3
rank Fragment = 4
rank Flags = 5
rank Direction = 6
rank Sender = 7
rank Receiver = 8
rank OtherBss = 9
rank Subtype = 10
rank Body = 11

-- the reason holds, and none before it
pub record IsFirstReason (f : List ℕ) (own : Bssid) (r : Ignored) : Type 0 where
  pub holds_here : IsTrue (holds f own r)
  pub none_before : (q : Ignored) → rank q < rank r → ¬ (IsTrue (holds f own q))

-- each field of a frame of a kind stands in its place
pub record IsAuthentication (f : List ℕ) (a : Authentication) : Type 0 where
  pub of_kind : IsTrue (is_of f kind.Authentication)
  pub sender_at : a.sender ≡ sender f
  pub algorithm_at : a.algorithm ≡ algorithm_number f
  pub transaction_at : a.transaction ≡ transaction_number f
  pub status_at : a.status ≡ status_field f

pub record IsAssociation (f : List ℕ) (a : AssociationRequest) : Type 0 where
  pub of_kind : IsTrue (is_of f kind.AssociationRequest)
  pub sender_at : a.sender ≡ sender f
  pub capability_at : a.capability ≡ capability_information f
  pub listen_interval_at : a.listen_interval ≡ listen_interval f
  pub elements_at : a.elements ≡ association_elements f

pub record IsReassociation (f : List ℕ) (r : ReassociationRequest) : Type 0 where
  pub of_kind : IsTrue (is_of f kind.ReassociationRequest)
  pub sender_at : r.sender ≡ sender f
  pub capability_at : r.capability ≡ capability_information f
  pub listen_interval_at : r.listen_interval ≡ listen_interval f
  pub current_ap_at : r.current_ap ≡ current_ap_address f
  pub elements_at : r.elements ≡ reassociation_elements f

pub record IsProbe (f : List ℕ) (p : ProbeRequest) : Type 0 where
  pub of_kind : IsTrue (is_of f kind.ProbeRequest)
  pub sender_at : p.sender ≡ sender f
  pub elements_at : p.elements ≡ probe_elements f

-- of disassociation and deauthentication
pub record GivesReason (f : List ℕ) (k : Kind) (from : Addr) (reason : Reason) : Type 0 where
  pub of_kind : IsTrue (is_of f k)
  pub sender_at : from ≡ sender f
  pub reason_at : reason.0 ≡ reason_field f

pub record IsUplink (f : List ℕ) (from : Addr) : Type 0 where
  pub of_kind : IsTrue (is_of f kind.Uplink)
  pub sender_at : from ≡ sender f

-- a frame says this
abbrev pub Says : List ℕ → Contents → Type 0
Says f (authentication a) = IsAuthentication f a
Says f (association_request a) = IsAssociation f a
Says f (reassociation_request r) = IsReassociation f r
Says f (probe_request p) = IsProbe f p
Says f (disassociation from reason) = GivesReason f kind.Disassociation from reason
Says f (deauthentication from reason) = GivesReason f kind.Deauthentication from reason
Says f (uplink from) = IsUplink f from

-- no reason holds, and the frame says this
pub record IsFrame (f : List ℕ) (own : Bssid) (c : Contents) : Type 0 where
  pub no_reason : (r : Ignored) → ¬ (IsTrue (holds f own r))
  pub says : Says f c

abbrev pub IsOutcome : List ℕ → Bssid → Result Contents Ignored → Type 0
IsOutcome f own (Err r) = IsFirstReason f own r
IsOutcome f own (Ok c) = IsFrame f own c

-- the word of a reason in writing
abbrev pub word : Ignored → List ℕ
word TooLong = codes "long"
word Short = codes "short"
word Version = codes "version"
word Class = codes "class"
word Fragment = codes "fragment"
word Flags = codes "flags"
word Direction = codes "direction"
word Sender = codes "sender"
word Receiver = codes "receiver"
word OtherBss = codes "bss"
word Subtype = codes "subtype"
word Body = codes "body"
