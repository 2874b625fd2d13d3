use Rattle.std.proofs.Common.{refl}
use Rattle.apd_base.specs.State.{station_at}
use Rattle.apd_mlme.proofs.DepartureLemmas.{silenced}
use Rattle.apd_mlme.proofs.laws.silence_ends_one_station.Goals as goal

pub returns : goal.returns
returns c = λ s confs conf b a is. rw is (silenced s b a (station_at s b a) refl)
