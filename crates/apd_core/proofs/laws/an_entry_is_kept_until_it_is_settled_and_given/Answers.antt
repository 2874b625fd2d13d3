use Rattle.apd_core.proofs.Owed.{kept_is}
use Rattle.apd_core.proofs.laws.an_entry_is_kept_until_it_is_settled_and_given.Goals as goal

pub returns : goal.returns
returns c = kept_is
