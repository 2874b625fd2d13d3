use Rattle.apd_base.proofs.NumberText.{number-decimal}
use Rattle.apd_base.proofs.text.decimal_law.Goals as goal

pub returns : goal.returns
returns c = number-decimal
