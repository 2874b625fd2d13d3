-- The octets of what the access point sends (IEEE Std 802.11-2016, 9.3.3.2, 9.3.3.5, 9.3.3.7, 9.3.3.9, 9.3.3.11 to
-- 9.3.3.13).
use Rattle.std.specs.Prelude.{◌≡◌, ℕ, ◌+◌, ◌*◌, ◌^◌, ◌<◌, ◌≤◌, Option, Some, None, List, [], ◌∷◌, ◌++◌, length}
use Rattle.std.specs.Int.{to_le_bytes, w16, w64}
use Rattle.apd_base.specs.Addr.{IsAddr}
use Rattle.apd_base.specs.declared.station.Aid.{Aid}
use Rattle.apd_frame.specs.declared.codes.Status.{Status}
use Rattle.apd_frame.specs.declared.codes.Status.TheVariants.{Success, RefusedReasonUnspecified, NotSupportedAuthAlgorithm, TransactionSequenceError, DeniedNoMoreStas, DeniedListenIntervalTooLarge}
use Rattle.apd_frame.specs.declared.element.TheConstants.{SSID, SUPPORTED_RATES, DSSS_PARAMETER_SET}
use Rattle.apd_frame.specs.declared.replies.AssociationResponse.{AssociationResponse}
use Rattle.apd_frame.specs.declared.replies.Rates.{Rates}
use Rattle.apd_frame.specs.declared.replies.Reply.{Reply}
use Rattle.apd_frame.specs.declared.replies.ReplyBody.{ReplyBody}
use Rattle.apd_frame.specs.declared.replies.ReplyBody.TheVariants.{Auth, Assoc, Reassoc, Probe, Disassoc, Deauth}
use Rattle.apd_frame.specs.Elements.{octets_of}
use Rattle.apd_frame.specs.Octets.{octet, protocol_version, frame_type, subtype, duration, receiver, sender, bssid, sequence_control, algorithm_number, transaction_number, status_field, reason_field, capability_information, response_status, response_aid, response_elements, timestamp, beacon_interval_field, probe_capability, probe_response_elements}
use Rattle.apd_frame.specs.Rates.{rate_octets}

-- the code of a status (9.4.1.9, Table 9-46)
abbrev pub status_code : Status → ℕ
status_code Success = 0
status_code RefusedReasonUnspecified = 1
status_code NotSupportedAuthAlgorithm = 13
status_code TransactionSequenceError = 14
status_code DeniedNoMoreStas = 17
status_code DeniedListenIntervalTooLarge = 51

-- the AID field: the two top bits and the number (9.4.1.8), or 0 for a station that has none (own)
abbrev pub aid_field : Option Aid → ℕ
aid_field None = 0
aid_field (Some aid) = 2 ^ 15 + 2 ^ 14 + aid.number

-- the Capability Information of an access point without encryption: ESS alone (9.4.1.4)
abbrev pub capability : ℕ
capability = 1

-- the subtype of a reply (9.2.4.1.3, Table 9-1)
abbrev pub subtype_of : ReplyBody → ℕ
subtype_of (Auth algorithm transaction status) = 11
subtype_of (Assoc response) = 1
subtype_of (Reassoc response) = 3
subtype_of (Probe beacon_interval ssid rates channel) = 5
subtype_of (Disassoc reason) = 10
subtype_of (Deauth reason) = 12

-- Supported Rates (9.4.2.3)
abbrev pub rates_element : Rates → ℕ × List ℕ
rates_element rates = (SUPPORTED_RATES, rate_octets rates)

-- DSSS Parameter Set, where the channel is told (9.4.2.4)
abbrev pub channel_elements : Option ℕ → List (ℕ × List ℕ)
channel_elements None = []
channel_elements (Some channel) = (DSSS_PARAMETER_SET, channel ∷ []) ∷ []

-- the elements of a reply: the rates alone in an association and a reassociation response (own); the SSID (9.4.2.2),
-- the rates and the channel in a probe response
abbrev pub elements_in : ReplyBody → List (ℕ × List ℕ)
elements_in (Auth algorithm transaction status) = []
elements_in (Assoc response) = rates_element response.rates ∷ []
elements_in (Reassoc response) = rates_element response.rates ∷ []
elements_in (Probe beacon_interval ssid rates channel) = (SSID, ssid) ∷ rates_element rates ∷ channel_elements channel
elements_in (Disassoc reason) = []
elements_in (Deauth reason) = []

-- the header: Frame Control with the subtype alone, duration 0, the receiver, the BSSID as sender and as
-- BSSID, and Sequence Control 0
abbrev pub header_octets : Reply → List ℕ
header_octets reply =
    (16 * subtype_of reply.body) ∷ 0 ∷ 0 ∷ 0 ∷ [] ++ reply.to.0 ++ reply.bssid.0.0 ++ reply.bssid.0.0 ++ (0 ∷ 0 ∷ [])

-- numbers of two octets, the lower one in front
abbrev pub response_fields : AssociationResponse → List ℕ
response_fields response =
    to_le_bytes w16 capability ++ to_le_bytes w16 (status_code response.status)
    ++ to_le_bytes w16 (aid_field response.aid)

-- a timestamp is 0 (own)
abbrev pub probe_fields : ℕ → List ℕ
probe_fields beacon_interval = to_le_bytes w64 0 ++ to_le_bytes w16 beacon_interval ++ to_le_bytes w16 capability

-- the fixed fields
abbrev pub fixed_fields : ReplyBody → List ℕ
fixed_fields (Auth algorithm transaction status) =
    to_le_bytes w16 algorithm ++ to_le_bytes w16 transaction ++ to_le_bytes w16 (status_code status)
fixed_fields (Assoc response) = response_fields response
fixed_fields (Reassoc response) = response_fields response
fixed_fields (Probe beacon_interval ssid rates channel) = probe_fields beacon_interval
fixed_fields (Disassoc reason) = to_le_bytes w16 reason.0
fixed_fields (Deauth reason) = to_le_bytes w16 reason.0

abbrev pub body_octets : ReplyBody → List ℕ
body_octets body = fixed_fields body ++ octets_of (elements_in body)

abbrev pub wire : Reply → List ℕ
wire reply = header_octets reply ++ body_octets reply.body

-- a reply that a frame can carry: addresses of six bytes, numbers of two, an SSID of at most 32
abbrev pub HasNumbers : ReplyBody → Type 0
HasNumbers (Auth algorithm transaction status) = (algorithm < 2 ^ 16) × (transaction < 2 ^ 16)
HasNumbers (Assoc response) = Unit {0}
HasNumbers (Reassoc response) = Unit {0}
HasNumbers (Probe beacon_interval ssid rates channel) = (beacon_interval < 2 ^ 16) × (length ssid ≤ 32)
HasNumbers (Disassoc reason) = reason.0 < 2 ^ 16
HasNumbers (Deauth reason) = reason.0 < 2 ^ 16

pub record IsReply (reply : Reply) : Type 0 where
  pub to : IsAddr reply.to
  pub bssid : IsAddr reply.bssid.0
  pub numbers : HasNumbers reply.body

pub record CarriesResponse (f : List ℕ) (response : AssociationResponse) : Type 0 where
  pub capability_at : capability_information f ≡ capability
  pub status_at : response_status f ≡ status_code response.status
  pub aid_at : response_aid f ≡ aid_field response.aid
  pub elements_at : response_elements f ≡ octets_of (rates_element response.rates ∷ [])

pub record CarriesProbe (f : List ℕ) (beacon_interval : ℕ) (elements : List (ℕ × List ℕ)) : Type 0 where
  pub timestamp_at : timestamp f ≡ 0
  pub beacon_interval_at : beacon_interval_field f ≡ beacon_interval
  pub capability_at : probe_capability f ≡ capability
  pub elements_at : probe_response_elements f ≡ octets_of elements

-- the body's fields in their places, and nothing behind them
abbrev pub CarriesBody : List ℕ → ReplyBody → Type 0
CarriesBody f (Auth algorithm transaction status) =
    (length f ≡ 30) × (algorithm_number f ≡ algorithm) × (transaction_number f ≡ transaction)
    × (status_field f ≡ status_code status)
CarriesBody f (Assoc response) = CarriesResponse f response
CarriesBody f (Reassoc response) = CarriesResponse f response
CarriesBody f (Probe beacon_interval ssid rates channel) =
    CarriesProbe f beacon_interval (elements_in (Probe beacon_interval ssid rates channel))
CarriesBody f (Disassoc reason) = (length f ≡ 26) × (reason_field f ≡ reason.0)
CarriesBody f (Deauth reason) = (length f ≡ 26) × (reason_field f ≡ reason.0)

-- the frame of a reply, field by field
pub record Carries (f : List ℕ) (reply : Reply) : Type 0 where
  pub version_zero : protocol_version f ≡ 0
  pub management : frame_type f ≡ 0
  pub subtype_at : subtype f ≡ subtype_of reply.body
  pub no_flag : octet f 1 ≡ 0
  pub no_duration : duration f ≡ 0
  pub receiver_at : receiver f ≡ reply.to
  pub sender_at : sender f ≡ reply.bssid.0
  pub bssid_at : bssid f ≡ reply.bssid.0
  pub no_sequence : sequence_control f ≡ 0
  pub body_at : CarriesBody f reply.body
