-- A station was silent for too long (own; IEEE Std 802.11-2016, 11.3.5.8 and 11.3.4.4 for what it is told).
use Rattle.std.specs.Prelude.{Option, Some, None}
use Rattle.apd_base.specs.declared.address.Addr.{Addr}
use Rattle.apd_base.specs.declared.address.Bssid.{Bssid}
use Rattle.apd_base.specs.declared.station.Station.{Station}
use Rattle.apd_base.specs.declared.station.Station.TheVariants.{Authenticated, Associated}
use Rattle.apd_base.specs.State.{State, station_at}
use Rattle.apd_frame.specs.declared.codes.TheConstants.Reason.{INVALID_AUTHENTICATION, INACTIVITY}
use Rattle.apd_mlme.specs.rules.Leaving.{outs_of_end, outs_of_drop, put_back, row_drop}
use Rattle.apd_mlme.specs.Verdict.{Verdict, nothing}

-- an associated station is authenticated from then on, one that is only authenticated has no row from then on, and both
-- are told
abbrev pub inactivity_of : State → Bssid → Addr → Option Station → Verdict
inactivity_of s b a (Some (Associated x)) = put_back s b a (outs_of_end b a INACTIVITY)
inactivity_of s b a (Some Authenticated) = row_drop s b a (outs_of_drop s b a INVALID_AUTHENTICATION)
inactivity_of s b a None = nothing s

abbrev pub inactivity_verdict : State → Bssid → Addr → Verdict
inactivity_verdict s b a = inactivity_of s b a (station_at s b a)
