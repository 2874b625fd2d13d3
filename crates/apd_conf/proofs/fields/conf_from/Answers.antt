use Rattle.std.proofs.Common.{Some, sym, ap, ◌∙◌}
use Rattle.std.specs.Prelude.{option_and_then}
use Rattle.apd_conf.specs.Values.{accepts}
use Rattle.apd_base.specs.Addr.{address_of}
use Rattle.apd_conf.proofs.SettingLemmas.{taken_value}
use Rattle.apd_conf.proofs.TableLemmas.{rule-interface, rule-bssid, rule-ssid, rule-accept_mac_file, rule-deny_mac_file}
use Rattle.apd_conf.proofs.fields.conf_from.Goals as goal

pub from_bytes-requires : goal.from_bytes-requires
unfolding accepts
from_bytes-requires c = taken_value _ _ rule-interface _ c.requires.faultless _ c.requires.interface

pub bssid_from-requires : goal.bssid_from-requires
unfolding accepts
bssid_from-requires c = taken_value _ _ rule-bssid _ c.requires.faultless _ c.requires.bssid

pub new-requires : goal.new-requires
unfolding accepts
new-requires c = taken_value _ _ rule-ssid _ c.requires.faultless _ c.requires.ssid

pub file_name-requires-clause-rule : goal.file_name-requires-clause-rule
file_name-requires-clause-rule c = rule-accept_mac_file

pub file_name-requires-2-clause-rule : goal.file_name-requires-2-clause-rule
file_name-requires-2-clause-rule c = rule-deny_mac_file

pub returns : goal.returns
returns c = record {
  faultless = c.requires.faultless;
  interface = c.requires.interface ∙ ap Some (sym c.in_ok-from_bytes.ensures);
  bssid = ap (option_and_then address_of) c.requires.bssid ∙ c.bssid_from.ensures;
  ssid = c.requires.ssid ∙ ap Some (sym c.in_ok-new.ensures);
  hw_mode = c.hw_mode.ensures;
  channel = c.channel.ensures;
  beacon_int = c.beacon_int.ensures;
  max_num_sta = c.max_num_sta.ensures;
  auth_algs = c.auth_algs.ensures;
  ap_max_inactivity = c.ap_max_inactivity.ensures;
  ignore_broadcast_ssid = c.ignore_broadcast_ssid.ensures;
  max_listen_interval = c.max_listen_interval.ensures;
  macaddr_acl = c.macaddr_acl.ensures;
  accept_mac_file = c.in_ok-file_name.ensures;
  deny_mac_file = c.in_ok-file_name-2.ensures;
  accept = c.new-2.ensures;
  deny = c.new-3.ensures;
}
