use Rattle.apd_honest.proofs.Upkeep.{copied}
use Rattle.apd_honest.proofs.maintenance.a_copy_of_an_honest_disk_is_told_rightly.Goals as goal

pub returns : goal.returns
returns g c = copied g.O.Disk.model g.N.Disk.model g.met.O.HonestDisk.always_honest g.met.N.HonestDisk.always_honest
