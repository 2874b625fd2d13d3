use Rattle.std.proofs.Common.{rules}
use Rattle.apd_table.proofs.table.Table.apply_two.Goals as goal

pub returns-clause-err : goal.returns-clause-err
returns-clause-err c = search rules
