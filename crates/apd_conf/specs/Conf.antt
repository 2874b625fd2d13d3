-- What a configuration says to the table of stations.
use Rattle.apd_base.specs.declared.station.Policy.{Policy}
use Rattle.apd_conf.specs.declared.conf.Conf.{Conf}

-- the policy of its BSSID
abbrev pub policy_of : Conf → Policy
policy_of conf = record { mode = conf.macaddr_acl; max = conf.max_num_sta }
