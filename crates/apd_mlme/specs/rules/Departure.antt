-- A station leaves, or sends data (IEEE Std 802.11-2016, 11.3.5.9, 11.3.4.5 and 11.3.3). Each rule goes by the
-- station's row at the BSSID.
use Rattle.std.specs.Prelude.{[], ◌∷◌, Option, Some, None}
use Rattle.apd_base.specs.declared.address.Addr.{Addr}
use Rattle.apd_base.specs.declared.address.Bssid.{Bssid}
use Rattle.apd_base.specs.declared.station.Station.{Station}
use Rattle.apd_base.specs.declared.station.Station.TheVariants.{Authenticated, Associated}
use Rattle.apd_base.specs.State.{State, station_at}
use Rattle.apd_frame.specs.declared.codes.TheConstants.Reason.{INVALID_CLASS2_FRAME, INVALID_CLASS3_FRAME}
use Rattle.apd_mlme.specs.declared.decision.Recipient.TheVariants.{Radio}
use Rattle.apd_mlme.specs.declared.decision.Out.TheVariants.{Remove}
use Rattle.apd_mlme.specs.rules.Leaving.{disassociation, deauthentication, removal, put_back, row_drop}
use Rattle.apd_mlme.specs.Verdict.{Verdict, nothing, only_reply}

-- Disassociation, a class 2 frame: an associated station is authenticated from then on, and its driver lets it go
-- (11.3.5.9); it is not told, since it asked for this itself. One that is only authenticated stays so (own), and one
-- without a row is told that it is not authenticated (11.3.3).
abbrev pub disassociation_of : State → Bssid → Addr → Option Station → Verdict
disassociation_of s b a (Some (Associated x)) = put_back s b a ((Radio b, Remove a) ∷ [])
disassociation_of s b a (Some Authenticated) = nothing s
disassociation_of s b a None = only_reply s (deauthentication b a INVALID_CLASS2_FRAME)

abbrev pub disassociation_verdict : State → Bssid → Addr → Verdict
disassociation_verdict s b a = disassociation_of s b a (station_at s b a)

-- Deauthentication, a class 1 frame: a station with a row has none from then on (11.3.4.5), and is not told either.
-- One without a row stays so (own).
abbrev pub deauthentication_of : State → Bssid → Addr → Option Station → Verdict
deauthentication_of s b a (Some row) = row_drop s b a (removal s b a)
deauthentication_of s b a None = nothing s

abbrev pub deauthentication_verdict : State → Bssid → Addr → Verdict
deauthentication_verdict s b a = deauthentication_of s b a (station_at s b a)

-- Data, a class 3 frame: it changes nothing, and a station that is not associated is told so (11.3.3)
abbrev pub data_of : State → Bssid → Addr → Option Station → Verdict
data_of s b a (Some (Associated x)) = nothing s
data_of s b a (Some Authenticated) = only_reply s (disassociation b a INVALID_CLASS3_FRAME)
data_of s b a None = only_reply s (deauthentication b a INVALID_CLASS3_FRAME)

abbrev pub data_verdict : State → Bssid → Addr → Verdict
data_verdict s b a = data_of s b a (station_at s b a)
