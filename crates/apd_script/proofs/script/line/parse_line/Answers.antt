use Rattle.apd_script.proofs.Saying.{only_tick, only_reception}
use Rattle.apd_script.proofs.script.line.parse_line.Goals as goal

pub returns-in_default-parse_moment-clause-none : goal.returns-in_default-parse_moment-clause-none
returns-in_default-parse_moment-clause-none c = only_tick c.args.text.now c.in-Some-behind-2.digits.now c.in-Some-behind-2.ensures c.in_default-parse_moment.ensures.none

pub returns-in_default-2-clause-none : goal.returns-in_default-2-clause-none
returns-in_default-2-clause-none c = only_reception c.args.text.now c.in-Some-behind-3.rest.now c.in-Some-behind-3.ensures (rw c.in_default-2.is at c.in_ok-interface.ensures.none)
