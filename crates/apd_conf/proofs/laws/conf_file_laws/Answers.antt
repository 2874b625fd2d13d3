use Rattle.apd_conf.proofs.FileLemmas as laws
use Rattle.apd_conf.proofs.LastLine.{last_line, other_line}
use Rattle.apd_conf.proofs.laws.conf_file_laws.Goals as goal

pub returns : goal.returns
returns c = record { one_conf = laws.one_conf; one_fault = laws.one_fault; not_both = laws.conf_or_fault; last_line = last_line; other_line = other_line }
