use Rattle.apd_table.proofs.NextFree.{one_next}
use Rattle.apd_table.proofs.laws.only_one_is_next.Goals as goal

pub returns : goal.returns
returns c = one_next
