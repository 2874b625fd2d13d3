use Rattle.apd_conf.specs.Values.{accepts}
use Rattle.apd_conf.specs.declared.rule.Rule.TheVariants.{File}
use Rattle.apd_conf.proofs.fields.file_name.Goals as goal

pub from_bytes-requires : goal.from_bytes-requires
unfolding accepts
from_bytes-requires c = c.in-Some.ensures.taken File c.requires.rule
