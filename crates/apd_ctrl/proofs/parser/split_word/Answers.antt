use Rattle.std.proofs.Common.{sym, ◌∙◌}
use Rattle.apd_ctrl.proofs.WordLemmas.{whole_word, none_behind, first_word, rest_behind}
use Rattle.apd_ctrl.proofs.parser.split_word.Goals as goal

pub returns-in-None-clause-word : goal.returns-in-None-clause-word
returns-in-None-clause-word c = whole_word c.args.text.now (sym c.first_blank.ensures ∙ c.in-None.is)

pub returns-in-None-clause-behind : goal.returns-in-None-clause-behind
returns-in-None-clause-behind c = none_behind c.args.text.now (sym c.first_blank.ensures ∙ c.in-None.is)

pub returns-in-Some-clause-word : goal.returns-in-Some-clause-word
returns-in-Some-clause-word c = first_word c.args.text.now c.in-Some.place (sym c.first_blank.ensures ∙ c.in-Some.is)

pub returns-in-Some-clause-behind : goal.returns-in-Some-clause-behind
returns-in-Some-clause-behind c = rest_behind c.args.text.now c.in-Some.place (sym c.first_blank.ensures ∙ c.in-Some.is)
