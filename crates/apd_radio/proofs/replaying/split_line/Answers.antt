use Rattle.apd_radio.proofs.Lines.{split_at, not_split}
use Rattle.apd_radio.proofs.replaying.split_line.Goals as goal

pub returns-in-Some-clause-lines : goal.returns-in-Some-clause-lines
returns-in-Some-clause-lines c = let h = c.in-Some.ensures.some in split_at c.args.text.now c.in-Some.end h.0 h.1 h.2

pub returns-in-None-clause-lines : goal.returns-in-None-clause-lines
returns-in-None-clause-lines c = not_split c.args.text.now c.if-is_empty.ensures c.in-None.ensures.none
