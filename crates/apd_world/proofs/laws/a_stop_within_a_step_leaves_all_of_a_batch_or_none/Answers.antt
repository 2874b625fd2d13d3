use Rattle.apd_disk.proofs.Moments.{weaker}
use Rattle.apd_world.proofs.Words.{ShowsEither, ShowsFlight, device_of}
use Rattle.apd_world.proofs.DurableSteps.{shows_flight}
use Rattle.apd_world.proofs.laws.a_stop_within_a_step_leaves_all_of_a_batch_or_none.Goals as goal

pub returns-clause-image : goal.returns-clause-image
returns-clause-image g c = λ s hs image unsettled. shows_flight s hs unsettled image

pub returns-clause-step : goal.returns-clause-step
returns-clause-step g c = λ old new hs safe proper unsettled.
    weaker g.D.Disk.model (device_of old) (device_of new) (ShowsEither old.core) (ShowsFlight old.core hs) (shows_flight old.core hs unsettled) (safe.inside proper)
