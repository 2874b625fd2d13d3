use Rattle.apd_journal.proofs.Growth.{begun}
use Rattle.apd_journal.proofs.laws.an_opened_half_is_read.Goals as goal

pub returns : goal.returns
returns c = begun
