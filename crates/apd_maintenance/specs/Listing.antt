-- The lines of a BSSID's stations and of the addresses of its lists (own format).
use Rattle.std.specs.Prelude.{ℕ, List, [], ◌++◌, codes, Option, Some, None}
use Rattle.std.specs.Fmt.{decimal}
use Rattle.std.specs.List.{flat_map}
use Rattle.apd_base.specs.Addr.{text_of}
use Rattle.apd_base.specs.State.{State, station_at}
use Rattle.apd_base.specs.declared.address.Addr.{Addr}
use Rattle.apd_base.specs.declared.address.Bssid.{Bssid}
use Rattle.apd_base.specs.declared.station.Station.{Station}
use Rattle.apd_base.specs.declared.station.Station.TheVariants.{Authenticated, Associated}
use Rattle.apd_base.specs.declared.station.Which.{Which}
use Rattle.apd_base.specs.declared.station.Which.TheVariants.{Accept, Deny}
use Rattle.apd_table.specs.Addresses.{addresses_at}
use Rattle.apd_ctrl.specs.Texts.{listed_addresses}

-- behind a station's address: an associated one has an identifier
abbrev pub state_text : Station → List ℕ
state_text Authenticated = codes " authenticated\n"
state_text (Associated x) = codes " associated " ++ (decimal x.aid.number ++ codes "\n")

abbrev pub station_line : Addr → Station → List ℕ
station_line a station = codes "station " ++ (text_of a ++ state_text station)

-- nothing where it has no row
abbrev pub line_if : Addr → Option Station → List ℕ
line_if a None = []
line_if a (Some station) = station_line a station

abbrev pub station_lines : State → Bssid → List Addr → List ℕ
station_lines s b addresses = flat_map (λ a. line_if a (station_at s b a)) addresses

abbrev pub list_word : Which → List ℕ
list_word Accept = codes "accept "
list_word Deny = codes "deny "

abbrev pub listed_line : Which → Addr → List ℕ
listed_line w a = list_word w ++ (text_of a ++ codes "\n")

abbrev pub list_lines : State → Bssid → Which → List ℕ
list_lines s b w = flat_map (listed_line w) (listed_addresses s b w)

-- its stations rise by address, and so do the addresses of each list
abbrev pub rows_text : State → Bssid → List ℕ
rows_text s b = station_lines s b (addresses_at s b) ++ (list_lines s b Accept ++ list_lines s b Deny)
