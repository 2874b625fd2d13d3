use Rattle.std.proofs.Common.{refl}
use Rattle.apd_conf.proofs.ConfLemmas.{built_in_from}
use Rattle.apd_conf.proofs.conf.Conf.built_in.Goals as goal

pub returns : goal.returns
returns c = built_in_from _ _ _ _ _ c.in_ok-new.ensures c.in_ok-new-2.ensures refl c.new-3.ensures c.new-4.ensures
