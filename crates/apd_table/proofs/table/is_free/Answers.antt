use Rattle.std.proofs.Common.{rules}
use Rattle.apd_table.proofs.table.is_free.Goals as goal

pub returns-else-not-has : goal.returns-else-not-has
returns-else-not-has c = search rules
