-- The kinds of frames that the access point takes.
use Rattle.std.specs.Prelude.{ℕ, Bool, ◌==◌, ◌&&◌, List, [], ◌∷◌, Option}
use Rattle.std.specs.List.{find}
use Rattle.apd_frame.specs.declared.kind.Kind.{Kind}
use Rattle.apd_frame.specs.declared.kind.Kind.TheVariants.{Uplink, AssociationRequest, ReassociationRequest, ProbeRequest, Disassociation, Authentication, Deauthentication}
use Rattle.apd_frame.specs.Octets.{frame_type, subtype}

-- management and data frames, by Type (IEEE Std 802.11-2016, 9.2.4.1.3, Table 9-1)
abbrev pub is_management : List ℕ → Bool
is_management f = frame_type f == 0

abbrev pub is_data : List ℕ → Bool
is_data f = frame_type f == 2

-- by Type and Subtype; every subtype of data is alike
abbrev pub is_of : List ℕ → Kind → Bool
is_of f Uplink = is_data f
is_of f AssociationRequest = is_management f && (subtype f == 0)
is_of f ReassociationRequest = is_management f && (subtype f == 2)
is_of f ProbeRequest = is_management f && (subtype f == 4)
is_of f Disassociation = is_management f && (subtype f == 10)
is_of f Authentication = is_management f && (subtype f == 11)
is_of f Deauthentication = is_management f && (subtype f == 12)

abbrev pub kinds : List Kind
kinds = Uplink ∷ AssociationRequest ∷ ReassociationRequest ∷ ProbeRequest ∷ Disassociation ∷ Authentication
    ∷ Deauthentication ∷ []

-- the kind of a frame, if it is one of these
abbrev pub kind_of : List ℕ → Option Kind
kind_of f = find (is_of f) kinds

-- the octets of the fixed fields in front of the body (9.3.3.5 to 9.3.3.13)
abbrev pub fixed_octets : Kind → ℕ
fixed_octets Uplink = 0
fixed_octets AssociationRequest = 4
fixed_octets ReassociationRequest = 10
fixed_octets ProbeRequest = 0
fixed_octets Disassociation = 2
fixed_octets Authentication = 6
fixed_octets Deauthentication = 2
