use Rattle.apd_honest.proofs.Upkeep.{checked}
use Rattle.apd_honest.proofs.maintenance.a_check_of_an_honest_disk_is_right.Goals as goal

pub returns : goal.returns
returns g c = checked g.D.Disk.model g.met.D.HonestDisk.always_honest g.met.D.Disk.reads_may_be_left
