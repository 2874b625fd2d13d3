use Rattle.apd_script.proofs.Parts.{by_lines, by_part}
use Rattle.apd_script.proofs.laws.lines_without_a_stop_are_one_run.Goals as goal

pub returns-clause-lines : goal.returns-clause-lines
returns-clause-lines g c = by_lines g.D.Disk.model g.R.Radio.model

pub returns-clause-part : goal.returns-clause-part
returns-clause-part g c = by_part g.D.Disk.model g.R.Radio.model
