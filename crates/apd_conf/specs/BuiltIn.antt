-- The configuration that the daemon has with no file: an open network on channel 6.
use Rattle.std.specs.Prelude.{[], ◌∷◌, None, codes}
use Rattle.std.proofs.Common.{lit≤}
use Rattle.apd_base.specs.declared.station.AclMode.TheVariants.{AcceptUnlessDenied}
use Rattle.apd_base.specs.declared.limits.TheConstants.{MAX_STATIONS}
use Rattle.apd_conf.specs.declared.conf.Conf.{Conf}
use Rattle.apd_conf.specs.declared.hw_mode.HwMode.TheVariants.{G}
use Rattle.apd_conf.specs.declared.auth_algs.AuthAlgs.TheVariants.{OpenAndShared}
use Rattle.apd_conf.specs.declared.ignore_broadcast_ssid.IgnoreBroadcastSsid.TheVariants.{No}

abbrev pub built_in : Conf
built_in = record {
  interface = codes "wlan0";
  bssid = record { 0 = record { 0 = 2 ∷ 0 ∷ 0 ∷ 0 ∷ 0 ∷ 1 ∷ [] } };
  ssid = codes "net";
  hw_mode = G;
  channel = 6;
  beacon_int = 100;
  max_num_sta = record { number = MAX_STATIONS; in_range = lit≤ tt };
  auth_algs = OpenAndShared;
  ap_max_inactivity = 300;
  ignore_broadcast_ssid = No;
  max_listen_interval = 65535;
  macaddr_acl = AcceptUnlessDenied;
  accept_mac_file = None;
  deny_mac_file = None;
  accept = [];
  deny = [];
}
