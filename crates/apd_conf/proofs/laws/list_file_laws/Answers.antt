use Rattle.apd_conf.proofs.FileLemmas as laws
use Rattle.apd_conf.proofs.laws.list_file_laws.Goals as goal

pub returns : goal.returns
returns c = record { one_list = laws.one_list; one_fault = laws.one_list_fault; not_both = laws.list_or_fault }
