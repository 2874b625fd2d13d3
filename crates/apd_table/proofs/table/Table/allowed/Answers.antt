use Rattle.std.proofs.Common.{rules}
use Rattle.apd_table.proofs.table.Table.allowed.Goals as goal

pub returns-in-Some : goal.returns-in-Some
returns-in-Some c = search rules
