-- The kind of a frame, and what a frame of a kind says.
use Rattle.std.proofs.Common.{◌≡◌, ℕ, Bool, true, false, ◌&&◌, ◌==◌, List, Some, refl}
use Rattle.std.proofs.lemmas.Bool.{eqb-true}
use Rattle.std.specs.Prelude.{IsTrue}
use Rattle.apd_frame.specs.declared.kind.Kind.{Kind}
use Rattle.apd_frame.specs.declared.kind.Kind.TheVariants as kind
use Rattle.apd_frame.specs.Contents.{Contents, authentication, association_request, reassociation_request, probe_request, disassociation, deauthentication, uplink}
use Rattle.apd_frame.specs.Kinds.{is_of, kind_of}
use Rattle.apd_frame.specs.Octets.{frame_type, subtype}
use Rattle.apd_frame.specs.Outcome.{contents_at, Says}

both : (a b : Bool) → IsTrue (a && b) → (a ≡ true) × (b ≡ true)
both true b h = (refl, h)
both false b h = cc

-- a management frame of a subtype
numbers : (f : List ℕ) (n : ℕ) → IsTrue ((frame_type f == 0) && (subtype f == n)) → (frame_type f ≡ 0) × (subtype f ≡ n)
numbers f n h =
    let parts = both (frame_type f == 0) (subtype f == n) h in
    (eqb-true (frame_type f) 0 parts.0, eqb-true (subtype f) n parts.1)

-- no frame is of two kinds
pub kind_is : (f : List ℕ) (k : Kind) → IsTrue (is_of f k) → kind_of f ≡ Some k
kind_is f kind.Uplink h = rw h refl
kind_is f kind.AssociationRequest h = let n = numbers f 0 h in rw (n.0, n.1) refl
kind_is f kind.ReassociationRequest h = let n = numbers f 2 h in rw (n.0, n.1) refl
kind_is f kind.ProbeRequest h = let n = numbers f 4 h in rw (n.0, n.1) refl
kind_is f kind.Disassociation h = let n = numbers f 10 h in rw (n.0, n.1) refl
kind_is f kind.Authentication h = let n = numbers f 11 h in rw (n.0, n.1) refl
kind_is f kind.Deauthentication h = let n = numbers f 12 h in rw (n.0, n.1) refl

-- what a frame of a kind says stands in its places
pub says_at : (f : List ℕ) (k : Kind) → IsTrue (is_of f k) → Says f (contents_at k f)
says_at f kind.Uplink h = record { of_kind = h; sender_at = refl }
says_at f kind.AssociationRequest h = record { of_kind = h; sender_at = refl; capability_at = refl; listen_interval_at = refl; elements_at = refl }
says_at f kind.ReassociationRequest h = record { of_kind = h; sender_at = refl; capability_at = refl; listen_interval_at = refl; current_ap_at = refl; elements_at = refl }
says_at f kind.ProbeRequest h = record { of_kind = h; sender_at = refl; elements_at = refl }
says_at f kind.Disassociation h = record { of_kind = h; sender_at = refl; reason_at = refl }
says_at f kind.Authentication h = record { of_kind = h; sender_at = refl; algorithm_at = refl; transaction_at = refl; status_at = refl }
says_at f kind.Deauthentication h = record { of_kind = h; sender_at = refl; reason_at = refl }

-- what a frame says, a frame of its kind says
pub said : (f : List ℕ) (c : Contents) → Says f c → (k : Kind) × (kind_of f ≡ Some k) × (c ≡ contents_at k f)
said f (authentication a) h =
    (kind.Authentication, kind_is f kind.Authentication h.of_kind, λ i. authentication (record { sender = h.sender_at i; algorithm = h.algorithm_at i; transaction = h.transaction_at i; status = h.status_at i }))
said f (association_request a) h =
    (kind.AssociationRequest, kind_is f kind.AssociationRequest h.of_kind, λ i. association_request (record { sender = h.sender_at i; capability = h.capability_at i; listen_interval = h.listen_interval_at i; elements = h.elements_at i }))
said f (reassociation_request r) h =
    (kind.ReassociationRequest, kind_is f kind.ReassociationRequest h.of_kind, λ i. reassociation_request (record { sender = h.sender_at i; capability = h.capability_at i; listen_interval = h.listen_interval_at i; current_ap = h.current_ap_at i; elements = h.elements_at i }))
said f (probe_request p) h =
    (kind.ProbeRequest, kind_is f kind.ProbeRequest h.of_kind, λ i. probe_request (record { sender = h.sender_at i; elements = h.elements_at i }))
said f (disassociation from reason) h =
    (kind.Disassociation, kind_is f kind.Disassociation h.of_kind, λ i. disassociation (h.sender_at i) (record { 0 = h.reason_at i }))
said f (deauthentication from reason) h =
    (kind.Deauthentication, kind_is f kind.Deauthentication h.of_kind, λ i. deauthentication (h.sender_at i) (record { 0 = h.reason_at i }))
said f (uplink from) h = (kind.Uplink, kind_is f kind.Uplink h.of_kind, λ i. uplink (h.sender_at i))
