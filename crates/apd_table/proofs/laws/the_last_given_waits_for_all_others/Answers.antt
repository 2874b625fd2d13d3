use Rattle.apd_table.proofs.NextFree.{last_alone}
use Rattle.apd_table.proofs.laws.the_last_given_waits_for_all_others.Goals as goal

pub returns : goal.returns
returns c = last_alone
