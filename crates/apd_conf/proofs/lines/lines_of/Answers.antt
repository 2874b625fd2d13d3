use Rattle.std.proofs.Common.{◌∙◌}
use Rattle.apd_conf.proofs.LinesLemmas.{lines-of}
use Rattle.apd_conf.proofs.lines.lines_of.Goals as goal

pub returns-clause-lines : goal.returns-clause-lines
returns-clause-lines c = c.lines.ensures.value ∙ lines-of c.args.file.now
