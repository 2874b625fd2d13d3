use Rattle.apd_radio.proofs.Unique.{call_once}
use Rattle.apd_radio.proofs.laws.one_reading.Goals as goal

pub returns : goal.returns
returns c = call_once
