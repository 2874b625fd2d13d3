use Rattle.std.proofs.Common.{ap, ◌∙◌}
use Rattle.apd_table.specs.for_proofs.BssRows.{state_of_rows}
use Rattle.apd_table.proofs.BssLemmas.{no_rows}
use Rattle.apd_table.proofs.bss_rows.BssRows.new.Goals as goal

pub returns : goal.returns
returns c = ap state_of_rows c.new.ensures.items ∙ no_rows
