use Rattle.std.proofs.Common.{rules}
use Rattle.apd_table.proofs.members.Members.change_row.Goals as goal

pub returns : goal.returns
returns c = search rules
