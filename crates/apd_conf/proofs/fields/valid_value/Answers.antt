use Rattle.apd_conf.specs.Lines.{lines}
use Rattle.apd_conf.proofs.SettingLemmas.{taken_of, lent_taken}
use Rattle.apd_conf.proofs.fields.valid_value.Goals as goal

pub returns-clause-taken : goal.returns-clause-taken
returns-clause-taken c rule ruled = lent_taken rule c.value_of.result _ c.value_of.ensures (taken_of c.args.name.now rule ruled (lines c.args.file.now) c.requires)
