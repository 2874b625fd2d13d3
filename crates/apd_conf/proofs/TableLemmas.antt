-- The rules of the names that a configuration has a field for.
use Rattle.std.proofs.Common.{◌≡◌, ℕ, false, cond, List, Some, refl}
use Rattle.std.specs.Prelude.{codes, ◌||◌}
use Rattle.apd_conf.specs.declared.rule.Rule.TheVariants.{Interface, Bssid, Ssid, Band, Number, File, Ignored}
use Rattle.apd_conf.specs.Table as table
use Rattle.apd_conf.specs.Table.{rule_of, rule_in, is_one_of, begins_with_one_of, settings, ignored_names, ignored_prefixes}

-- a name that is none of those without effect
pub rule_of-settings : (name : List ℕ) → is_one_of name ignored_names ≡ false → begins_with_one_of name ignored_prefixes ≡ false → rule_of name ≡ rule_in name settings
unfolding rule_of
rule_of-settings name one front = λ i. cond (one i || front i) (Some Ignored) (rule_in name settings)

pub rule-interface : rule_of (codes "interface") ≡ Some Interface
unfolding rule_of is_one_of begins_with_one_of rule_in
rule-interface = refl

pub rule-bssid : rule_of (codes "bssid") ≡ Some Bssid
unfolding rule_of is_one_of begins_with_one_of rule_in
rule-bssid = refl

pub rule-ssid : rule_of (codes "ssid") ≡ Some Ssid
unfolding rule_of is_one_of begins_with_one_of rule_in
rule-ssid = refl

pub rule-hw_mode : rule_of (codes "hw_mode") ≡ Some Band
unfolding rule_of is_one_of begins_with_one_of rule_in
rule-hw_mode = refl

pub rule-channel : rule_of (codes "channel") ≡ Some (Number table.channel)
unfolding rule_of is_one_of begins_with_one_of rule_in
rule-channel = refl

pub rule-beacon_int : rule_of (codes "beacon_int") ≡ Some (Number table.beacon_int)
unfolding rule_of is_one_of begins_with_one_of rule_in
rule-beacon_int = refl

pub rule-max_num_sta : rule_of (codes "max_num_sta") ≡ Some (Number table.max_num_sta)
unfolding rule_of is_one_of begins_with_one_of rule_in
rule-max_num_sta = refl

pub rule-auth_algs : rule_of (codes "auth_algs") ≡ Some (Number table.auth_algs)
unfolding rule_of is_one_of begins_with_one_of rule_in
rule-auth_algs = refl

pub rule-ap_max_inactivity : rule_of (codes "ap_max_inactivity") ≡ Some (Number table.ap_max_inactivity)
unfolding rule_of is_one_of begins_with_one_of rule_in
rule-ap_max_inactivity = refl

pub rule-ignore_broadcast_ssid : rule_of (codes "ignore_broadcast_ssid") ≡ Some (Number table.ignore_broadcast_ssid)
unfolding rule_of is_one_of begins_with_one_of rule_in
rule-ignore_broadcast_ssid = refl

pub rule-max_listen_interval : rule_of (codes "max_listen_interval") ≡ Some (Number table.max_listen_interval)
unfolding rule_of is_one_of begins_with_one_of rule_in
rule-max_listen_interval = refl

pub rule-macaddr_acl : rule_of (codes "macaddr_acl") ≡ Some (Number table.macaddr_acl)
unfolding rule_of is_one_of begins_with_one_of rule_in
rule-macaddr_acl = refl

pub rule-accept_mac_file : rule_of (codes "accept_mac_file") ≡ Some File
unfolding rule_of is_one_of begins_with_one_of rule_in
rule-accept_mac_file = refl

pub rule-deny_mac_file : rule_of (codes "deny_mac_file") ≡ Some File
unfolding rule_of is_one_of begins_with_one_of rule_in
rule-deny_mac_file = refl
