-- A probe request (IEEE Std 802.11-2016, 11.1.4.3.4): a station asks which networks are there.
use Rattle.std.specs.Prelude.{ℕ, Bool, true, false, ◌&&◌, ◌||◌, List, [], ◌∷◌, Option, Some, None, length, ◌==◌, if◌then◌else◌}
use Rattle.std.specs.Str.{bytes_eq}
use Rattle.apd_base.specs.declared.address.Addr.{Addr}
use Rattle.apd_base.specs.declared.address.Bssid.{Bssid}
use Rattle.apd_base.specs.State.{State}
use Rattle.apd_conf.specs.declared.conf.Conf.{Conf}
use Rattle.apd_conf.specs.declared.ignore_broadcast_ssid.IgnoreBroadcastSsid.{IgnoreBroadcastSsid}
use Rattle.apd_conf.specs.declared.ignore_broadcast_ssid.IgnoreBroadcastSsid.TheVariants.{No, Empty, Cleared}
use Rattle.apd_frame.specs.Contents.{ProbeRequest}
use Rattle.apd_frame.specs.Elements.{well_formed, first_with}
use Rattle.apd_frame.specs.declared.element.TheConstants.{SSID}
use Rattle.apd_frame.specs.declared.replies.Reply.{Reply}
use Rattle.apd_frame.specs.declared.replies.ReplyBody.TheVariants.{Probe}
use Rattle.apd_mlme.specs.declared.decision.Recipient.{Recipient}
use Rattle.apd_mlme.specs.declared.decision.Out.{Out}
use Rattle.apd_mlme.specs.rules.Offer.{rates_in, channel_in}
use Rattle.apd_mlme.specs.Outs.{reply_out}
use Rattle.apd_mlme.specs.Verdict.{Verdict}

-- whether the network tells its name to who asks for any
abbrev pub is_open : IgnoreBroadcastSsid → Bool
is_open No = true
is_open Empty = false
is_open Cleared = false

-- whether an SSID stands for the network: it is its name, or it is empty, which stands for any (9.4.2.2), and the
-- network doesn't hide
abbrev pub is_asked : Conf → Option (List ℕ) → Bool
is_asked conf None = false
is_asked conf (Some ssid) = bytes_eq ssid conf.ssid || ((length ssid == 0) && is_open conf.ignore_broadcast_ssid)

-- the elements are whole, and the first SSID among them stands for the network
abbrev pub is_answered : Conf → List ℕ → Bool
is_answered conf elements = well_formed elements && is_asked conf (first_with SSID elements)

-- the response says the network's name, whatever name was asked for
abbrev pub probe_response : Conf → Bssid → Addr → Reply
probe_response conf b a = record {
  to = a;
  bssid = b;
  body = Probe conf.beacon_int conf.ssid (rates_in conf.hw_mode) (channel_in conf.hw_mode conf.channel);
}

abbrev pub probe_outs : Conf → Bssid → ProbeRequest → List (Recipient × Out)
probe_outs conf b request =
    if is_answered conf request.elements then reply_out (probe_response conf b request.sender) ∷ [] else []

-- it changes nothing, and asks no policy (own)
abbrev pub probe_verdict : State → Conf → Bssid → ProbeRequest → Verdict
probe_verdict s conf b request = record { state = s; changes = []; outs = probe_outs conf b request }
