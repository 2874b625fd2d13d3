use Rattle.std.proofs.Common.{refl}
use Rattle.apd_base.specs.State.{station_at}
use Rattle.apd_mlme.proofs.IdentifierLemmas.{identifier_is_there}
use Rattle.apd_mlme.proofs.laws.an_identifier_is_left.Goals as goal

pub returns : goal.returns
returns c = λ s b a sound. identifier_is_there s b sound a (station_at s b a) refl
