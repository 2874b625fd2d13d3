-- The fields of a management or data frame by the place of their octets (IEEE Std 802.11-2016, 9.2.4,
-- 9.3.2.1, 9.3.3). Octet 0 is sent first, bit 0 of an octet is its lowest, and a number of two octets has
-- the lower one in front (9.2.2). What a short list lacks counts as 0.
use Rattle.std.specs.Prelude.{ℕ, Bool, ◌+◌, ◌/◌, ◌%◌, ◌^◌, ◌==◌, List, [], ◌∷◌, drop, take, slice_index}
use Rattle.std.specs.Int.{from_le_bytes, w64}
use Rattle.std.specs.Str.{bytes_eq}
use Rattle.apd_base.specs.Number.{u16_at}
use Rattle.apd_base.specs.declared.address.Addr.{Addr}

abbrev pub octet : List ℕ → ℕ → ℕ
octet f i = slice_index f i

abbrev pub bit : List ℕ → ℕ → ℕ → Bool
bit f i b = octet f i / 2 ^ b % 2 == 1

-- Frame Control, octets 0 and 1 (9.2.4.1)
-- Protocol Version (9.2.4.1.2)
abbrev pub protocol_version : List ℕ → ℕ
protocol_version f = octet f 0 % 4

-- Type: 0 management, 1 control, 2 data, 3 extension (9.2.4.1.3)
abbrev pub frame_type : List ℕ → ℕ
frame_type f = octet f 0 / 4 % 4

-- Subtype (9.2.4.1.3)
abbrev pub subtype : List ℕ → ℕ
subtype f = octet f 0 / 16

-- To DS and From DS (9.2.4.1.4)
abbrev pub to_ds : List ℕ → Bool
to_ds f = bit f 1 0

abbrev pub from_ds : List ℕ → Bool
from_ds f = bit f 1 1

-- More Fragments (9.2.4.1.5)
abbrev pub more_fragments : List ℕ → Bool
more_fragments f = bit f 1 2

-- Protected Frame (9.2.4.1.9)
abbrev pub protected_frame : List ℕ → Bool
protected_frame f = bit f 1 6

-- +HTC/Order (9.2.4.1.10)
abbrev pub order : List ℕ → Bool
order f = bit f 1 7

-- Duration/ID (9.2.4.2)
abbrev pub duration : List ℕ → ℕ
duration f = u16_at f 2

-- an address: six octets as they are sent (9.2.4.3)
abbrev pub address_at : List ℕ → ℕ → Addr
address_at f i = record {
  0 = octet f i ∷ octet f (i + 1) ∷ octet f (i + 2) ∷ octet f (i + 3) ∷ octet f (i + 4) ∷ octet f (i + 5) ∷ [];
}

-- Address 1 is the receiver, Address 2 the sender, and Address 3 the BSSID in a management frame
-- (9.2.4.3, 9.3.3.2)
abbrev pub receiver : List ℕ → Addr
receiver f = address_at f 4

abbrev pub sender : List ℕ → Addr
sender f = address_at f 10

abbrev pub bssid : List ℕ → Addr
bssid f = address_at f 16

-- Sequence Control, whose lowest four bits are the Fragment Number (9.2.4.4)
abbrev pub sequence_control : List ℕ → ℕ
sequence_control f = u16_at f 22

abbrev pub fragment_number : List ℕ → ℕ
fragment_number f = octet f 22 % 16

-- the body of an Authentication frame (9.3.3.12): Authentication Algorithm Number (9.4.1.1),
-- Authentication Transaction Sequence Number (9.4.1.2) and Status Code (9.4.1.9)
abbrev pub algorithm_number : List ℕ → ℕ
algorithm_number f = u16_at f 24

abbrev pub transaction_number : List ℕ → ℕ
transaction_number f = u16_at f 26

abbrev pub status_field : List ℕ → ℕ
status_field f = u16_at f 28

-- the body of a Disassociation and of a Deauthentication frame (9.3.3.5, 9.3.3.13): Reason Code (9.4.1.7)
abbrev pub reason_field : List ℕ → ℕ
reason_field f = u16_at f 24

-- the body of an Association and of a Reassociation Request frame (9.3.3.6, 9.3.3.8): Capability Information
-- (9.4.1.4) and Listen Interval (9.4.1.6); elements follow, in the latter behind Current AP Address (9.4.1.5)
abbrev pub capability_information : List ℕ → ℕ
capability_information f = u16_at f 24

abbrev pub listen_interval : List ℕ → ℕ
listen_interval f = u16_at f 26

abbrev pub association_elements : List ℕ → List ℕ
association_elements f = drop 28 f

abbrev pub current_ap_address : List ℕ → Addr
current_ap_address f = address_at f 28

abbrev pub reassociation_elements : List ℕ → List ℕ
reassociation_elements f = drop 34 f

-- the body of a Probe Request frame (9.3.3.10): elements alone
abbrev pub probe_elements : List ℕ → List ℕ
probe_elements f = drop 24 f

-- the body of an Association and of a Reassociation Response frame (9.3.3.7, 9.3.3.9): Capability Information,
-- Status Code, AID (9.4.1.8) and elements
abbrev pub response_status : List ℕ → ℕ
response_status f = u16_at f 26

abbrev pub response_aid : List ℕ → ℕ
response_aid f = u16_at f 28

abbrev pub response_elements : List ℕ → List ℕ
response_elements f = drop 30 f

-- the body of a Probe Response frame (9.3.3.11): Timestamp (9.4.1.10), Beacon Interval (9.4.1.3), Capability
-- Information and elements
abbrev pub timestamp : List ℕ → ℕ
timestamp f = from_le_bytes w64 (take 8 (drop 24 f))

abbrev pub beacon_interval_field : List ℕ → ℕ
beacon_interval_field f = u16_at f 32

abbrev pub probe_capability : List ℕ → ℕ
probe_capability f = u16_at f 34

abbrev pub probe_response_elements : List ℕ → List ℕ
probe_response_elements f = drop 36 f

-- a group's address: bit 0 of its first octet is 1 (9.2.4.3.3)
abbrev pub is_group_address : Addr → Bool
is_group_address a = slice_index a.0 0 % 2 == 1

abbrev pub is_same_address : Addr → Addr → Bool
is_same_address a b = bytes_eq a.0 b.0
