use Rattle.std.proofs.Common.{◌∙◌, sym}
use Rattle.apd_conf.proofs.TableLemmas.{rule_of-settings}
use Rattle.apd_conf.proofs.rule.rule_of.Goals as goal

pub returns : goal.returns
returns c = c.rule_in.ensures ∙ sym (rule_of-settings c.args.name.now (sym c.is_one_of.ensures ∙ c.if-is_one_of.false) (sym c.begins_with_one_of.ensures ∙ c.if-begins_with_one_of.false))
