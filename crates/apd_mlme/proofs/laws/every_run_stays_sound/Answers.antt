use Rattle.apd_mlme.proofs.VerdictLemmas.{run_sound}
use Rattle.apd_mlme.proofs.laws.every_run_stays_sound.Goals as goal

pub returns : goal.returns
returns c = λ s confs events. run_sound confs events s
