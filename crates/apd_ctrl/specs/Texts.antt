-- The replies to queries, byte for byte.
use Rattle.std.specs.Prelude.{ℕ, Bool, false, List, [], ◌++◌, map as list_map, filter, codes, Option, Some, None, slice_get, if◌then◌else◌}
use Rattle.std.specs.Fmt.{decimal, digits}
use Rattle.std.specs.List.{find, flat_map}
use Rattle.std.specs.Ordering.{is_lt}
use Rattle.std.specs.FinMap as map
use Rattle.apd_base.specs.Addr.{addr_cmp, text_of}
use Rattle.apd_base.specs.State.{State, station_at, count, is_list_row_of}
use Rattle.apd_base.specs.declared.address.Addr.{Addr}
use Rattle.apd_base.specs.declared.address.Bssid.{Bssid}
use Rattle.apd_base.specs.declared.station.Station.{Station}
use Rattle.apd_base.specs.declared.station.Station.TheVariants.{Authenticated, Associated}
use Rattle.apd_base.specs.declared.station.Which.{Which}
use Rattle.apd_conf.specs.Confs.{conf_at}
use Rattle.apd_conf.specs.declared.conf.Conf.{Conf}
use Rattle.apd_table.specs.Addresses.{addresses_at}
use Rattle.apd_ctrl.specs.Escapes.{escaped_text}
use Rattle.apd_ctrl.specs.declared.command.Query.{Query}
use Rattle.apd_ctrl.specs.declared.command.Query.TheVariants as query

abbrev pub fail : List ℕ
fail = codes "FAIL\n"

-- the addresses of a list of a BSSID, rising
unfoldable pub listed_addresses : State → Bssid → Which → List Addr
listed_addresses s b w = list_map (λ row. row.0.2) (filter (λ row. is_list_row_of b w row.0) (map.entries s.lists))

-- the lines of a station behind its address
abbrev pub station_lines : List ℕ → ℕ → ℕ → ℕ → List ℕ
station_lines flags aid capability listen_interval =
    codes "\nflags=" ++ (flags
    ++ (codes "\naid=" ++ (decimal aid
    ++ (codes "\ncapability=0x" ++ (digits 16 false capability
    ++ (codes "\nlisten_interval=" ++ (decimal listen_interval
    ++ codes "\n")))))))

abbrev pub lines_of : Station → List ℕ
lines_of Authenticated = station_lines (codes "[AUTH]") 0 0 0
lines_of (Associated x) = station_lines (codes "[AUTH][ASSOC][AUTHORIZED]") x.aid.number x.capability x.listen_interval

abbrev pub station_text : Addr → Station → List ℕ
station_text a station = text_of a ++ lines_of station

-- of an address with a row or without
abbrev pub station_reply : Addr → Option Station → List ℕ
station_reply a None = fail
station_reply a (Some station) = station_text a station

-- of a row that was looked for: nothing where there is none
abbrev pub row_text : Option (Addr × Station) → List ℕ
row_text None = []
row_text (Some row) = station_text row.0 row.1

-- of an address that was looked for: nothing where there is none
abbrev pub found_reply : State → Bssid → Option Addr → List ℕ
found_reply s b None = []
found_reply s b (Some a) = station_reply a (station_at s b a)

abbrev pub is_above : Addr → Addr → Bool
is_above a c = is_lt (addr_cmp a c)

-- of the address behind one that has a row
abbrev pub next_reply : State → Bssid → Addr → Option Station → List ℕ
next_reply s b a None = fail
next_reply s b a (Some station) = found_reply s b (find (is_above a) (addresses_at s b))

abbrev pub listed_line : Addr → List ℕ
listed_line a = text_of a ++ codes " VLAN_ID=0\n"

abbrev pub list_text : State → Bssid → Which → List ℕ
list_text s b w = flat_map listed_line (listed_addresses s b w)

abbrev pub state_word : Bool → List ℕ
state_word up = if up then codes "ENABLED" else codes "DISABLED"

-- the lines of a radio up to the name of its BSSID
abbrev pub radio_lines : Conf → Bool → List ℕ
radio_lines conf up =
    codes "state=" ++ (state_word up
    ++ (codes "\nchannel=" ++ (decimal conf.channel
    ++ (codes "\nbeacon_int=" ++ (decimal conf.beacon_int
    ++ (codes "\nbss[0]=" ++ (conf.interface
    ++ codes "\nbssid[0]=")))))))

abbrev pub count_lines : ℕ → List ℕ
count_lines n = codes "\nnum_sta[0]=" ++ (decimal n ++ codes "\n")

abbrev pub status_text : State → Conf → Bssid → Bool → List ℕ
status_text s conf b up =
    radio_lines conf up ++ (text_of b.0 ++ (codes "\nssid[0]=" ++ (escaped_text conf.ssid ++ count_lines (count s b))))

-- a reply where the BSSID is configured, and else a failure
abbrev pub reply_where_configured : (Conf → List ℕ) → Option Conf → List ℕ
reply_where_configured reply None = fail
reply_where_configured reply (Some conf) = reply conf

-- the reply to a query in a state, under these configurations
abbrev pub text : State → List Conf → Query → List ℕ
text s confs query.Ping = codes "PONG\n"
text s confs (query.Status b up) = reply_where_configured (λ conf. status_text s conf b up) (conf_at confs b)
text s confs (query.Sta b a) = reply_where_configured (λ _. station_reply a (station_at s b a)) (conf_at confs b)
text s confs (query.First b) =
    reply_where_configured (λ _. found_reply s b (slice_get (addresses_at s b) 0)) (conf_at confs b)
text s confs (query.Next b a) = reply_where_configured (λ _. next_reply s b a (station_at s b a)) (conf_at confs b)
text s confs (query.Show b w) = reply_where_configured (λ _. list_text s b w) (conf_at confs b)

-- the BSSID that a query is about
abbrev pub bssid_of : Query → Option Bssid
bssid_of query.Ping = None
bssid_of (query.Status b up) = Some b
bssid_of (query.Sta b a) = Some b
bssid_of (query.First b) = Some b
bssid_of (query.Next b a) = Some b
bssid_of (query.Show b w) = Some b
