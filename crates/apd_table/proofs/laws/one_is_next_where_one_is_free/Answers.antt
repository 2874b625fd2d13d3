use Rattle.apd_table.proofs.NextFree.{next_where_free}
use Rattle.apd_table.proofs.laws.one_is_next_where_one_is_free.Goals as goal

pub returns : goal.returns
returns c = next_where_free
