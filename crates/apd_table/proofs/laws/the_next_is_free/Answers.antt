use Rattle.apd_table.proofs.NextFree.{next_is_free}
use Rattle.apd_table.proofs.laws.the_next_is_free.Goals as goal

pub returns : goal.returns
returns c = next_is_free
