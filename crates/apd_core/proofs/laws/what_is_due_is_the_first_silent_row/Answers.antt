use Rattle.apd_core.proofs.Silence.{due_is_first, due_is_none}
use Rattle.apd_core.proofs.laws.what_is_due_is_the_first_silent_row.Goals as goal

pub returns-clause-first : goal.returns-clause-first
returns-clause-first c = due_is_first

pub returns-clause-none : goal.returns-clause-none
returns-clause-none c = due_is_none
