use Rattle.apd_conf.proofs.ConfLemmas.{bssid-conf_at, conf_at-own, interface-conf_named, conf_named-own, listed_at, listed_named, none_at, none_named}
use Rattle.apd_conf.proofs.confs.look_up_laws.Goals as goal

pub returns : goal.returns
returns c = record {
  bssid = bssid-conf_at;
  own_bssid = conf_at-own;
  interface = interface-conf_named;
  own_interface = conf_named-own;
  bssid_listed = listed_at;
  interface_listed = listed_named;
  no_bssid = none_at;
  no_interface = none_named;
}
