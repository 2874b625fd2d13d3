use Rattle.apd_world.proofs.RunLemmas.{made_then}
use Rattle.apd_world.proofs.laws.lists_of_steps_join.Goals as goal

pub returns : goal.returns
returns g c = made_then g.D.Disk.model g.R.Radio.model
