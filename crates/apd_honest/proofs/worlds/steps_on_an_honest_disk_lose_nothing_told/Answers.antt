use Rattle.apd_honest.proofs.Begun.{losing_nothing}
use Rattle.apd_honest.proofs.worlds.steps_on_an_honest_disk_lose_nothing_told.Goals as goal

pub returns : goal.returns
returns g c = losing_nothing g.D.Disk.model g.met.D.HonestDisk.always_honest g.R.Radio.model
