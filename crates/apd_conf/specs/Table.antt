-- The names of a configuration file, and which values each takes.
use Rattle.std.specs.Prelude.{ℕ, Bool, List, [], ◌∷◌, Option, Some, codes, nat_eq, ◌||◌, if◌then◌else◌}
use Rattle.std.specs.List.{find, list_any, starts_with}
use Rattle.std.specs.Option.{option_map}
use Rattle.std.specs.Str.{bytes_eq}
use Rattle.apd_base.specs.declared.limits.TheConstants.{MAX_STATIONS}
use Rattle.apd_conf.specs.declared.rule.Range.{Range}
use Rattle.apd_conf.specs.declared.rule.Rule.{Rule}
use Rattle.apd_conf.specs.declared.rule.Rule.TheVariants.{Interface, Bssid, Ssid, Band, Number, File, Ignored, Security}

abbrev pub channel : Range
channel = record { least = 0; greatest = 196; default = 0 }

-- in time units of 1024 microseconds
abbrev pub beacon_int : Range
beacon_int = record { least = 15; greatest = 65535; default = 100 }

abbrev pub max_num_sta : Range
max_num_sta = record { least = 0; greatest = MAX_STATIONS; default = MAX_STATIONS }

abbrev pub auth_algs : Range
auth_algs = record { least = 1; greatest = 3; default = 3 }

-- in seconds
abbrev pub ap_max_inactivity : Range
ap_max_inactivity = record { least = 1; greatest = 2147483647; default = 300 }

abbrev pub ignore_broadcast_ssid : Range
ignore_broadcast_ssid = record { least = 0; greatest = 2; default = 0 }

-- in beacon intervals
abbrev pub max_listen_interval : Range
max_listen_interval = record { least = 0; greatest = 65535; default = 65535 }

abbrev pub macaddr_acl : Range
macaddr_acl = record { least = 0; greatest = 1; default = 0 }

-- names with an effect
abbrev pub settings : List (List ℕ × Rule)
settings =
    (codes "interface", Interface) ∷
    (codes "bssid", Bssid) ∷
    (codes "ssid", Ssid) ∷
    (codes "hw_mode", Band) ∷
    (codes "channel", Number channel) ∷
    (codes "beacon_int", Number beacon_int) ∷
    (codes "max_num_sta", Number max_num_sta) ∷
    (codes "auth_algs", Number auth_algs) ∷
    (codes "ap_max_inactivity", Number ap_max_inactivity) ∷
    (codes "ignore_broadcast_ssid", Number ignore_broadcast_ssid) ∷
    (codes "max_listen_interval", Number max_listen_interval) ∷
    (codes "macaddr_acl", Number macaddr_acl) ∷
    (codes "accept_mac_file", File) ∷
    (codes "deny_mac_file", File) ∷
    (codes "wpa", Security) ∷
    (codes "ieee8021x", Security) ∷
    []

-- names that are taken with any value, and have no effect
abbrev pub ignored_names : List (List ℕ)
ignored_names =
    codes "driver" ∷
    codes "bridge" ∷
    codes "ctrl_interface" ∷
    codes "ctrl_interface_group" ∷
    codes "logger_syslog" ∷
    codes "logger_syslog_level" ∷
    codes "logger_stdout" ∷
    codes "logger_stdout_level" ∷
    codes "country_code" ∷
    codes "ieee80211d" ∷
    codes "ieee80211h" ∷
    codes "dtim_period" ∷
    codes "rts_threshold" ∷
    codes "fragm_threshold" ∷
    codes "wmm_enabled" ∷
    codes "uapsd_advertisement_enabled" ∷
    codes "ieee80211n" ∷
    codes "ht_capab" ∷
    codes "preamble" ∷
    codes "disassoc_low_ack" ∷
    codes "skip_inactivity_poll" ∷
    codes "ap_isolate" ∷
    codes "utf8_ssid" ∷
    codes "eapol_key_index_workaround" ∷
    codes "eap_server" ∷
    codes "eapol_version" ∷
    codes "nas_identifier" ∷
    codes "ieee80211ac" ∷
    codes "own_ip_addr" ∷
    []

-- and so is every name that begins so
abbrev pub ignored_prefixes : List (List ℕ)
ignored_prefixes = codes "wmm_ac_" ∷ codes "tx_queue_" ∷ codes "vht_" ∷ []

unfoldable pub is_one_of : List ℕ → List (List ℕ) → Bool
is_one_of name names = list_any (λ known. bytes_eq name known) names

unfoldable pub begins_with_one_of : List ℕ → List (List ℕ) → Bool
begins_with_one_of name prefixes = list_any (λ prefix. starts_with nat_eq name prefix) prefixes

-- the rule of a name in a table
unfoldable pub rule_in : List ℕ → List (List ℕ × Rule) → Option Rule
rule_in name rows = option_map (λ row. row.1) (find (λ row. bytes_eq name row.0) rows)

-- the rule of a name, if it is known
unfoldable pub rule_of : List ℕ → Option Rule
rule_of name =
    if is_one_of name ignored_names || begins_with_one_of name ignored_prefixes then Some Ignored else rule_in name settings
