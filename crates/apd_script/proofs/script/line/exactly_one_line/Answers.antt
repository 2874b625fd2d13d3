use Rattle.apd_script.proofs.Saying.{one_said}
use Rattle.apd_script.proofs.script.line.exactly_one_line.Goals as goal

pub returns : goal.returns
returns c = one_said
