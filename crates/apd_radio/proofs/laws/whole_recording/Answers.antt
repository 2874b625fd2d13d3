use Rattle.apd_radio.proofs.Written.{ended_stays, written}
use Rattle.apd_radio.proofs.laws.whole_recording.Goals as goal

pub returns-clause-written : goal.returns-clause-written
returns-clause-written c = written

pub returns-clause-stays : goal.returns-clause-stays
returns-clause-stays c = ended_stays
