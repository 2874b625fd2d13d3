-- What the laws say of a frame that leaves: its octets, in numbers, apart from the rules that it follows.
use Rattle.std.specs.Prelude.{ℕ, ◌+◌, ◌*◌, List, [], ◌∷◌, ◌++◌}
use Rattle.std.specs.Int.{to_le_bytes, w16}
use Rattle.apd_base.specs.declared.address.Addr.{Addr}
use Rattle.apd_base.specs.declared.address.Bssid.{Bssid}
use Rattle.apd_conf.specs.declared.hw_mode.HwMode.{HwMode}
use Rattle.apd_conf.specs.declared.hw_mode.HwMode.TheVariants.{A, B, G}
use Rattle.apd_frame.specs.declared.codes.Status.{Status}
use Rattle.apd_frame.specs.declared.codes.Status.TheVariants.{Success, RefusedReasonUnspecified, NotSupportedAuthAlgorithm, TransactionSequenceError, DeniedNoMoreStas, DeniedListenIntervalTooLarge}
use Rattle.apd_mlme.specs.declared.decision.Recipient.{Recipient}
use Rattle.apd_mlme.specs.declared.decision.Recipient.TheVariants.{Radio}
use Rattle.apd_mlme.specs.declared.decision.Out.{Out}
use Rattle.apd_mlme.specs.declared.decision.Out.TheVariants.{Frame}

-- the header of a management frame (IEEE Std 802.11-2016, 9.3.3.2): Frame Control with a subtype alone, duration 0, the
-- station, the BSSID as sender and as BSSID, and Sequence Control 0
abbrev pub header : ℕ → Bssid → Addr → List ℕ
header subtype b a = (16 * subtype) ∷ 0 ∷ 0 ∷ 0 ∷ [] ++ a.0 ++ b.0.0 ++ b.0.0 ++ (0 ∷ 0 ∷ [])

-- the radio of a BSSID sends such a frame with this body
abbrev pub management_frame : ℕ → Bssid → Addr → List ℕ → Recipient × Out
management_frame subtype b a body = (Radio b, Frame (header subtype b a ++ body))

-- Disassociation and Deauthentication (9.3.3.5 and 9.3.3.13), with a reason code
abbrev pub disassociation_frame : Bssid → Addr → ℕ → Recipient × Out
disassociation_frame b a reason = management_frame 10 b a (to_le_bytes w16 reason)

abbrev pub deauthentication_frame : Bssid → Addr → ℕ → Recipient × Out
deauthentication_frame b a reason = management_frame 12 b a (to_le_bytes w16 reason)

-- the status codes (9.4.1.9, Table 9-46)
abbrev pub code_of : Status → ℕ
code_of Success = 0
code_of RefusedReasonUnspecified = 1
code_of NotSupportedAuthAlgorithm = 13
code_of TransactionSequenceError = 14
code_of DeniedNoMoreStas = 17
code_of DeniedListenIntervalTooLarge = 51

-- the Supported Rates element of a radio (9.4.2.3): 6, 12 and 24 Mb/s at 5 GHz, and 1, 2, 5.5 and 11 Mb/s at 2.4 GHz,
-- all of them basic, in units of 500 kb/s (own)
abbrev pub rates_octets : HwMode → List ℕ
rates_octets A = 1 ∷ 3 ∷ (128 + 12) ∷ (128 + 24) ∷ (128 + 48) ∷ []
rates_octets B = 1 ∷ 4 ∷ (128 + 2) ∷ (128 + 4) ∷ (128 + 11) ∷ (128 + 22) ∷ []
rates_octets G = 1 ∷ 4 ∷ (128 + 2) ∷ (128 + 4) ∷ (128 + 11) ∷ (128 + 22) ∷ []

-- its DSSS Parameter Set element (9.4.2.4), at 2.4 GHz alone: the channel
abbrev pub channel_octets : HwMode → ℕ → List ℕ
channel_octets A channel = []
channel_octets B channel = 3 ∷ 1 ∷ channel ∷ []
channel_octets G channel = 3 ∷ 1 ∷ channel ∷ []
