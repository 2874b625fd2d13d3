use Rattle.apd_journal.proofs.Once.{half_once}
use Rattle.apd_journal.proofs.laws.a_half_is_read_in_one_way.Goals as goal

pub returns : goal.returns
returns c = half_once
