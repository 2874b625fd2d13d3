use Rattle.apd_journal.proofs.Growth.{behind_unread, opened}
use Rattle.apd_journal.proofs.laws.an_opened_group_is_read.Goals as goal

pub returns-clause-closed : goal.returns-clause-closed
returns-clause-closed c = λ half other epoch changes place h. behind_unread half epoch changes place h other

pub returns-clause-opened : goal.returns-clause-opened
returns-clause-opened c = λ half epoch changes group place h. opened half epoch changes place h group
