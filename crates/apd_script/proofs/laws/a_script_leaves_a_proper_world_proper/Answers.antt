use Rattle.apd_script.proofs.Parts.{stays_proper}
use Rattle.apd_script.proofs.laws.a_script_leaves_a_proper_world_proper.Goals as goal

pub returns : goal.returns
returns g c = stays_proper g.D.Disk.model g.R.Radio.model
