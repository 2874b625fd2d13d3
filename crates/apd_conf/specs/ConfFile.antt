-- Configuration files: a line gives a value to a name.
use Rattle.std.specs.Prelude.{◌≡◌, ℕ, ◌+◌, ◌==◌, List, [], take, drop, Option, Some, None, IsSome, slice_get, codes, if◌then◌else◌, unwrap_or, option_and_then}
use Rattle.std.specs.List.{position, filter_map, last_or}
use Rattle.std.specs.Option.{option_map}
use Rattle.std.specs.Str.{bytes_eq}
use Rattle.apd_base.specs.Mode.{mode_number}
use Rattle.apd_base.specs.Text.{equals}
use Rattle.apd_conf.specs.declared.rule.Rule.{Rule}
use Rattle.apd_conf.specs.declared.rule.Rule.TheVariants.{Interface, Bssid, Ssid, Band, Number, File, Ignored, Security}
use Rattle.apd_conf.specs.declared.hw_mode.HwMode.{HwMode}
use Rattle.apd_conf.specs.declared.hw_mode.HwMode.TheVariants.{A, B, G}
use Rattle.apd_conf.specs.declared.conf.Conf.{Conf}
use Rattle.apd_conf.specs.declared.conf_fault.Required.{Required}
use Rattle.apd_conf.specs.declared.conf_fault.Required.TheVariants as required
use Rattle.apd_conf.specs.declared.conf_fault.ConfFault.{ConfFault}
use Rattle.apd_conf.specs.declared.conf_fault.ConfFault.TheVariants as faults
use Rattle.apd_conf.specs.Auth.{algs_number}
use Rattle.apd_conf.specs.BroadcastSsid.{quiet_number}
use Rattle.apd_conf.specs.Lines.{is_skipped}
use Rattle.apd_base.specs.Addr.{address_of}
use Rattle.apd_conf.specs.Faults.{IsFirstFault, IsFaultless}
use Rattle.apd_conf.specs.Table.{rule_of, channel, beacon_int, max_num_sta, auth_algs, ap_max_inactivity, ignore_broadcast_ssid, max_listen_interval, macaddr_acl}
use Rattle.apd_conf.specs.Values.{accepts, number_or_default}

-- the name of a line is what stands before its first '=', and the value all that stands behind it
unfoldable pub setting_of : List ℕ → Option (List ℕ × List ℕ)
setting_of line = option_map (λ place. (take place line, drop (place + 1) line)) (position (λ b. b == equals) line)

-- the fault of line n, counted from 1, where its name has this rule and the rule does not take its value
abbrev pub refusal : ℕ → Rule → ConfFault
refusal n Security = faults.Security n
refusal n Interface = faults.BadValue n
refusal n Bssid = faults.BadValue n
refusal n Ssid = faults.BadValue n
refusal n Band = faults.BadValue n
refusal n (Number range) = faults.BadValue n
refusal n File = faults.BadValue n
refusal n Ignored = faults.BadValue n

abbrev pub value_fault : ℕ → List ℕ → Option Rule → Option ConfFault
value_fault n value None = Some (faults.Unknown n)
value_fault n value (Some rule) = if accepts rule value then None else Some (refusal n rule)

abbrev pub setting_fault : ℕ → Option (List ℕ × List ℕ) → Option ConfFault
setting_fault n None = Some (faults.NoEquals n)
setting_fault n (Some setting) = value_fault n setting.1 (rule_of setting.0)

abbrev pub line_fault : ℕ → List ℕ → Option ConfFault
line_fault n line = if is_skipped line then None else setting_fault n (setting_of line)

abbrev pub fault_by : ℕ → Option (List ℕ) → Option ConfFault
fault_by n None = None
fault_by n (Some line) = line_fault (n + 1) line

abbrev pub fault_at : List (List ℕ) → ℕ → Option ConfFault
fault_at lines n = fault_by n (slice_get lines n)

-- the value that a line gives to a name, if it gives it one
abbrev pub value_for : List ℕ → Option (List ℕ × List ℕ) → Option (List ℕ)
value_for name None = None
value_for name (Some setting) = if bytes_eq name setting.0 then Some setting.1 else None

abbrev pub value_in : List ℕ → List ℕ → Option (List ℕ)
value_in name line = if is_skipped line then None else value_for name (setting_of line)

-- the value of a name: of those that the lines give it, the last
unfoldable pub value_of : List ℕ → List (List ℕ) → Option (List ℕ)
value_of name lines = last_or None (filter_map (value_in name) lines)

abbrev pub band_name : HwMode → List ℕ
band_name A = codes "a"
band_name B = codes "b"
band_name G = codes "g"

-- the configuration that lines without a fault give
pub record IsConfOf (lines : List (List ℕ)) (conf : Conf) : Type 0 where
  pub faultless : IsFaultless (fault_at lines)
  pub interface : value_of (codes "interface") lines ≡ Some conf.interface
  pub bssid : option_and_then address_of (value_of (codes "bssid") lines) ≡ Some conf.bssid.0
  pub ssid : value_of (codes "ssid") lines ≡ Some conf.ssid
  pub hw_mode : band_name conf.hw_mode ≡ unwrap_or (value_of (codes "hw_mode") lines) (codes "b")
  pub channel : conf.channel ≡ number_or_default channel (value_of (codes "channel") lines)
  pub beacon_int : conf.beacon_int ≡ number_or_default beacon_int (value_of (codes "beacon_int") lines)
  pub max_num_sta : conf.max_num_sta.number ≡ number_or_default max_num_sta (value_of (codes "max_num_sta") lines)
  pub auth_algs : algs_number conf.auth_algs ≡ number_or_default auth_algs (value_of (codes "auth_algs") lines)
  pub ap_max_inactivity : conf.ap_max_inactivity
      ≡ number_or_default ap_max_inactivity (value_of (codes "ap_max_inactivity") lines)
  pub ignore_broadcast_ssid : quiet_number conf.ignore_broadcast_ssid
      ≡ number_or_default ignore_broadcast_ssid (value_of (codes "ignore_broadcast_ssid") lines)
  pub max_listen_interval : conf.max_listen_interval
      ≡ number_or_default max_listen_interval (value_of (codes "max_listen_interval") lines)
  pub macaddr_acl : mode_number conf.macaddr_acl ≡ number_or_default macaddr_acl (value_of (codes "macaddr_acl") lines)
  pub accept_mac_file : conf.accept_mac_file ≡ value_of (codes "accept_mac_file") lines
  pub deny_mac_file : conf.deny_mac_file ≡ value_of (codes "deny_mac_file") lines
  pub accept : conf.accept ≡ []
  pub deny : conf.deny ≡ []

-- the first of the names that must be given, and is not
abbrev pub IsMissing : List (List ℕ) → Required → Type 0
IsMissing lines required.Interface = value_of (codes "interface") lines ≡ None
IsMissing lines required.Bssid = IsSome (value_of (codes "interface") lines) × (value_of (codes "bssid") lines ≡ None)
IsMissing lines required.Ssid = IsSome (value_of (codes "interface") lines) × IsSome (value_of (codes "bssid") lines)
    × (value_of (codes "ssid") lines ≡ None)

-- the fault of other lines: the first fault of a line, and where no line is faulty the first name that is
-- missing. That memory runs out is no fault of theirs
abbrev pub IsFaultOf : List (List ℕ) → ConfFault → Type 0
IsFaultOf lines (faults.NoEquals n) = IsFirstFault (fault_at lines) (faults.NoEquals n)
IsFaultOf lines (faults.Unknown n) = IsFirstFault (fault_at lines) (faults.Unknown n)
IsFaultOf lines (faults.BadValue n) = IsFirstFault (fault_at lines) (faults.BadValue n)
IsFaultOf lines (faults.Security n) = IsFirstFault (fault_at lines) (faults.Security n)
IsFaultOf lines (faults.Missing name) = IsFaultless (fault_at lines) × IsMissing lines name
IsFaultOf lines faults.NoMemory = ⊥
