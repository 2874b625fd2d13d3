use Rattle.apd_radio.proofs.RoundTrip.{read_back, read_once}
use Rattle.apd_radio.proofs.laws.round_trip.Goals as goal

pub returns-clause-read : goal.returns-clause-read
returns-clause-read c = read_back

pub returns-clause-only : goal.returns-clause-only
returns-clause-only c = read_once
