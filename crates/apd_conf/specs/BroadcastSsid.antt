-- Whether a BSSID answers a probe request with the empty SSID, which stands for any network (IEEE Std 802.11-2016, 9.4.2.2).
use Rattle.std.specs.Prelude.{ℕ}
use Rattle.apd_conf.specs.declared.ignore_broadcast_ssid.IgnoreBroadcastSsid.{IgnoreBroadcastSsid}
use Rattle.apd_conf.specs.declared.ignore_broadcast_ssid.IgnoreBroadcastSsid.TheVariants.{No, Empty, Cleared}

-- the number of a value of `ignore_broadcast_ssid`
abbrev pub quiet_number : IgnoreBroadcastSsid → ℕ
quiet_number No = 0
quiet_number Empty = 1
quiet_number Cleared = 2
