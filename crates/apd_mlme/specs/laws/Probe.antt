-- Which probe requests a network answers (IEEE Std 802.11-2016, 11.1.4.3.4).
use Rattle.std.specs.Prelude.{◌≡◌, ◌⊎◌, ℕ, List, [], ◌∷◌, ◌++◌, IsSomeAnd, length}
use Rattle.std.specs.Int.{to_le_bytes, w16, w64}
use Rattle.apd_base.specs.declared.address.Addr.{Addr}
use Rattle.apd_base.specs.declared.address.Bssid.{Bssid}
use Rattle.apd_base.specs.State.{State}
use Rattle.apd_conf.specs.declared.conf.Conf.{Conf}
use Rattle.apd_conf.specs.declared.ignore_broadcast_ssid.IgnoreBroadcastSsid.TheVariants.{No}
use Rattle.apd_frame.specs.Contents.{ProbeRequest}
use Rattle.apd_frame.specs.Elements.{WellFormed, first_with}
use Rattle.apd_frame.specs.declared.element.TheConstants.{SSID}
use Rattle.apd_mlme.specs.declared.decision.Recipient.{Recipient}
use Rattle.apd_mlme.specs.declared.decision.Out.{Out}
use Rattle.apd_mlme.specs.laws.ManagementFrame.{management_frame, rates_octets, channel_octets}
use Rattle.apd_mlme.specs.Outs.{reply_out}
use Rattle.apd_mlme.specs.rules.ProbeRequest.{probe_response}
use Rattle.apd_mlme.specs.Verdict.{Verdict}

-- an SSID asks for the network: it is its name, or it is empty, which asks for any (9.4.2.2), and the network doesn't
-- hide
abbrev pub AsksFor : Conf → List ℕ → Type 0
AsksFor conf ssid = (ssid ≡ conf.ssid) ⊎ ((ssid ≡ []) × (conf.ignore_broadcast_ssid ≡ No))

-- the elements are whole, and the first SSID among them asks for it
abbrev pub IsProbeFor : Conf → List ℕ → Type 0
IsProbeFor conf elements = WellFormed elements × IsSomeAnd (first_with SSID elements) (AsksFor conf)

-- such a request gets one response, whoever sent it, and any other gets none; nothing changes
pub record IsProbed (s : State) (conf : Conf) (b : Bssid) (request : ProbeRequest) (v : Verdict) : Type 0 where
  pub answered : IsProbeFor conf request.elements → v.outs ≡ reply_out (probe_response conf b request.sender) ∷ []
  pub silent : ¬ (IsProbeFor conf request.elements) → v.outs ≡ []
  pub stays : v.state ≡ s

-- the response (9.3.3.11): a timestamp of 0 (own), the configured beacon interval, the capability ESS (9.4.1.4), the
-- network's name, the radio's rates and, at 2.4 GHz, its channel
abbrev pub response_frame : Conf → Bssid → Addr → Recipient × Out
response_frame conf b a =
    management_frame 5 b a (
    to_le_bytes w64 0 ++ to_le_bytes w16 conf.beacon_int ++ (1 ∷ 0 ∷ [])
    ++ ((0 ∷ length conf.ssid ∷ conf.ssid) ++ (rates_octets conf.hw_mode ++ channel_octets conf.hw_mode conf.channel)))
