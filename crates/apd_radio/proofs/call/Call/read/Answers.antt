use Rattle.apd_radio.proofs.Words.{only_received, only_sent, only_installed}
use Rattle.apd_radio.proofs.call.Call.read.Goals as goal

pub returns-in_default-2-clause-none : goal.returns-in_default-2-clause-none
returns-in_default-2-clause-none c = only_received c.args.line.now c.in-Some.text.now c.in-Some.ensures (rw c.in_default-2.is at c.in_ok-frame.ensures.none)

pub returns-in_default-3-clause-none : goal.returns-in_default-3-clause-none
returns-in_default-3-clause-none c = only_sent c.args.line.now c.in-Some-behind.text.now c.in-Some-behind.ensures (rw c.in_default-3.is at c.in_ok-frame-2.ensures.none)

pub returns-in_default-station_of-clause-none : goal.returns-in_default-station_of-clause-none
returns-in_default-station_of-clause-none c = only_installed c.args.line.now c.in-Some-behind-2.text.now c.in-Some-behind-2.ensures c.in_default-station_of.ensures.none
