use Rattle.apd_conf.specs.Values.{accepts}
use Rattle.apd_conf.specs.declared.rule.Rule.TheVariants.{Band}
use Rattle.apd_conf.proofs.TableLemmas.{rule-hw_mode}
use Rattle.apd_conf.proofs.fields.hw_mode.Goals as goal

pub band-requires : goal.band-requires
unfolding accepts
band-requires c = c.in-Some.ensures.taken Band rule-hw_mode
