use Rattle.apd_slot.proofs.Driven.{all_is_driven, wanted_is_driven}
use Rattle.apd_slot.proofs.RowsLemmas.{installed_are}
use Rattle.apd_slot.proofs.laws.wanted_law.Goals as goal

pub returns-clause-outs : goal.returns-clause-outs
returns-clause-outs c = wanted_is_driven

pub returns-clause-all : goal.returns-clause-all
returns-clause-all c = all_is_driven

pub returns-clause-rows : goal.returns-clause-rows
returns-clause-rows c = installed_are
