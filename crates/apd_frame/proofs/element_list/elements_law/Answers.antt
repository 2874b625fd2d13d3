use Rattle.apd_frame.proofs.ElementLemmas.{all_bytes, longest_is, only_longest, is_well_formed, read_again, well_formed_is}
use Rattle.apd_frame.proofs.element_list.elements_law.Goals as goal

pub returns-clause-longest : goal.returns-clause-longest
returns-clause-longest c = λ f elements bytes. (only_longest f elements (all_bytes f bytes), longest_is f elements (all_bytes f bytes))

pub returns-clause-well_formed : goal.returns-clause-well_formed
returns-clause-well_formed c = λ f bytes. (is_well_formed f (all_bytes f bytes), well_formed_is f)

pub returns-clause-read_again : goal.returns-clause-read_again
returns-clause-read_again c = read_again
