-- Who comes into the table: a station that asks for authentication.
use Rattle.std.specs.Prelude.{◌≡◌, List}
use Rattle.std.specs.List.{Any}
use Rattle.apd_base.specs.declared.address.Addr.{Addr}
use Rattle.apd_base.specs.declared.address.Bssid.{Bssid}
use Rattle.apd_frame.specs.Contents.{authentication}
use Rattle.apd_frame.specs.declared.received.Authentication.{Authentication}
use Rattle.apd_event.specs.Happening.{Happening, Heard}

-- the station asks the BSSID to authenticate it
abbrev pub Asks : Bssid → Addr → Happening → Type 0
Asks b a h = (request : Authentication) × (request.sender ≡ a) × (h ≡ Heard b (authentication request))

-- it did so in one of them
abbrev pub HasAsked : Bssid → Addr → List Happening → Type 0
HasAsked b a hs = Any (Asks b a) hs
