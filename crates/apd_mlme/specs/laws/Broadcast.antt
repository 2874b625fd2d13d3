-- The broadcast address is no station's own.
use Rattle.std.specs.Prelude.{◌≡◌, ◌≢◌, List, None}
use Rattle.std.specs.List.{All}
use Rattle.apd_base.specs.declared.address.Bssid.{Bssid}
use Rattle.apd_base.specs.State.{State, station_at}
use Rattle.apd_frame.specs.Contents.{sender_of}
use Rattle.apd_base.specs.declared.address.TheConstants.{BROADCAST}
use Rattle.apd_event.specs.Happening.{Happening, Heard, Kick, ListEdit, Expire, Configure}

-- a frame is not from the broadcast address
abbrev pub IsFromStation : Happening → Type 0
IsFromStation (Heard b frame) = sender_of frame ≢ BROADCAST
IsFromStation (Kick b to reason deauth tag) = Unit {0}
IsFromStation (ListEdit b which edit tag) = Unit {0}
IsFromStation (Expire b a) = Unit {0}
IsFromStation (Configure b accept deny) = Unit {0}

-- no frame is from the broadcast address
abbrev pub AreFromStations : List Happening → Type 0
AreFromStations hs = All IsFromStation hs

-- no row has the broadcast address
abbrev pub NoBroadcastRow : State → Type 0
NoBroadcastRow s = (b : Bssid) → station_at s b BROADCAST ≡ None

-- no station has the broadcast address for its own: none has a row, and none is heard
pub record NoneIsBroadcast (s : State) (h : Happening) : Type 0 where
  pub rows : NoBroadcastRow s
  pub sender : IsFromStation h
