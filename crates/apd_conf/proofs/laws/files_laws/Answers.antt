use Rattle.apd_conf.proofs.FilesOutcome as outcome
use Rattle.apd_conf.proofs.laws.files_laws.Goals as goal

pub returns : goal.returns
returns c = record { one_list = outcome.one_outcome; one_fault = outcome.one_fault_of_all; not_both = outcome.not_both }
