-- The code by which a model's value may hold configurations: the tuple of their fields.
use Rattle.std.specs.Prelude.{◌≡◌, ℕ, zero, suc, List, Option, refl}
use Rattle.std.specs.Coded.{Coded, code_by, coded×, coded_ℕ, coded_list, coded_option}
use Rattle.apd_base.specs.declared.address.Bssid.{Bssid}
use Rattle.apd_base.specs.declared.station.AclMode.{AclMode}
use Rattle.apd_base.specs.declared.station.StationNumber.{StationNumber}
use Rattle.apd_base.specs.declared.address.Addr.{Addr}
use Rattle.apd_base.specs.Addr.{coded_addr, coded_bssid}
use Rattle.apd_base.specs.for_proofs.Codes.{coded_station_number, coded_mode}
use Rattle.apd_conf.specs.Auth.{algs_number}
use Rattle.apd_conf.specs.BroadcastSsid.{quiet_number}
use Rattle.apd_conf.specs.declared.conf.Conf.{Conf}
use Rattle.apd_conf.specs.declared.hw_mode.HwMode.{HwMode}
use Rattle.apd_conf.specs.declared.hw_mode.HwMode.TheVariants.{A, B, G}
use Rattle.apd_conf.specs.declared.auth_algs.AuthAlgs.{AuthAlgs}
use Rattle.apd_conf.specs.declared.auth_algs.AuthAlgs.TheVariants.{Open, Shared, OpenAndShared}
use Rattle.apd_conf.specs.declared.ignore_broadcast_ssid.IgnoreBroadcastSsid.{IgnoreBroadcastSsid}
use Rattle.apd_conf.specs.declared.ignore_broadcast_ssid.IgnoreBroadcastSsid.TheVariants.{No, Empty, Cleared}

abbrev pub band_number : HwMode → ℕ
band_number A = 0
band_number B = 1
band_number G = 2

abbrev pub band_from : ℕ → HwMode
band_from zero = A
band_from (suc zero) = B
band_from (suc (suc n)) = G

pub band_from-band_number : (m : HwMode) → band_from (band_number m) ≡ m
band_from-band_number A = refl
band_from-band_number B = refl
band_from-band_number G = refl

abbrev pub coded_band : Coded HwMode
coded_band = code_by ℕ coded_ℕ band_number band_from band_from-band_number

abbrev pub algs_from : ℕ → AuthAlgs
algs_from zero = Open
algs_from (suc zero) = Open
algs_from (suc (suc zero)) = Shared
algs_from (suc (suc (suc n))) = OpenAndShared

pub algs_from-algs_number : (a : AuthAlgs) → algs_from (algs_number a) ≡ a
algs_from-algs_number Open = refl
algs_from-algs_number Shared = refl
algs_from-algs_number OpenAndShared = refl

abbrev pub coded_algs : Coded AuthAlgs
coded_algs = code_by ℕ coded_ℕ algs_number algs_from algs_from-algs_number

abbrev pub quiet_from : ℕ → IgnoreBroadcastSsid
quiet_from zero = No
quiet_from (suc zero) = Empty
quiet_from (suc (suc n)) = Cleared

pub quiet_from-quiet_number : (i : IgnoreBroadcastSsid) → quiet_from (quiet_number i) ≡ i
quiet_from-quiet_number No = refl
quiet_from-quiet_number Empty = refl
quiet_from-quiet_number Cleared = refl

abbrev pub coded_quiet : Coded IgnoreBroadcastSsid
coded_quiet = code_by ℕ coded_ℕ quiet_number quiet_from quiet_from-quiet_number

abbrev pub coded_bytes : Coded (List ℕ)
coded_bytes = coded_list coded_ℕ

-- its names; what its radio does; what its stations may do; its lists
abbrev pub Names : Type 0
Names = List ℕ × (Bssid × (List ℕ × (Option (List ℕ) × Option (List ℕ))))

abbrev pub Radio : Type 0
Radio = HwMode × (ℕ × (ℕ × IgnoreBroadcastSsid))

abbrev pub Stations : Type 0
Stations = StationNumber × (AuthAlgs × (ℕ × (ℕ × AclMode)))

abbrev pub coded_names : Coded Names
coded_names =
    coded× coded_bytes
    (coded× coded_bssid (coded× coded_bytes (coded× (coded_option coded_bytes) (coded_option coded_bytes))))

abbrev pub coded_radio : Coded Radio
coded_radio = coded× coded_band (coded× coded_ℕ (coded× coded_ℕ coded_quiet))

abbrev pub coded_stations : Coded Stations
coded_stations = coded× coded_station_number (coded× coded_algs (coded× coded_ℕ (coded× coded_ℕ coded_mode)))

abbrev pub Lists : Type 0
Lists = List Addr × List Addr

abbrev pub coded_lists : Coded Lists
coded_lists = coded× (coded_list coded_addr) (coded_list coded_addr)

abbrev pub parts_of : Conf → Names × (Radio × (Stations × Lists))
parts_of c = (
  (c.interface, (c.bssid, (c.ssid, (c.accept_mac_file, c.deny_mac_file)))),
  (
    (c.hw_mode, (c.channel, (c.beacon_int, c.ignore_broadcast_ssid))),
    ((c.max_num_sta, (c.auth_algs, (c.ap_max_inactivity, (c.max_listen_interval, c.macaddr_acl)))), (c.accept, c.deny)),
  ),
)

abbrev pub conf_from : Names × (Radio × (Stations × Lists)) → Conf
conf_from p = record {
  interface = p.0.0;
  bssid = p.0.1.0;
  ssid = p.0.1.1.0;
  accept_mac_file = p.0.1.1.1.0;
  deny_mac_file = p.0.1.1.1.1;
  hw_mode = p.1.0.0;
  channel = p.1.0.1.0;
  beacon_int = p.1.0.1.1.0;
  ignore_broadcast_ssid = p.1.0.1.1.1;
  max_num_sta = p.1.1.0.0;
  auth_algs = p.1.1.0.1.0;
  ap_max_inactivity = p.1.1.0.1.1.0;
  max_listen_interval = p.1.1.0.1.1.1.0;
  macaddr_acl = p.1.1.0.1.1.1.1;
  accept = p.1.1.1.0;
  deny = p.1.1.1.1;
}

abbrev pub coded_conf : Coded Conf
coded_conf =
    code_by (Names × (Radio × (Stations × Lists)))
    (coded× coded_names (coded× coded_radio (coded× coded_stations coded_lists))) parts_of conf_from (λ _. refl)

abbrev pub coded_confs : Coded (List Conf)
coded_confs = coded_list coded_conf
