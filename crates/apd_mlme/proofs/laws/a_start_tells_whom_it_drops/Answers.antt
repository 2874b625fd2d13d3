use Rattle.apd_conf.specs.Confs.{conf_at}
use Rattle.apd_mlme.proofs.AssociationEndLemmas.{start_tells}
use Rattle.apd_mlme.proofs.laws.a_start_tells_whom_it_drops.Goals as goal

pub returns : goal.returns
returns c = λ s confs b accept deny. start_tells s confs b accept deny (conf_at confs b)
