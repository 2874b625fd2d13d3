use Rattle.apd_honest.proofs.Upkeep.{new_store}
use Rattle.apd_honest.proofs.maintenance.a_format_of_an_honest_disk_is_told_rightly.Goals as goal

pub returns : goal.returns
returns g c = new_store g.D.Disk.model g.met.D.HonestDisk.always_honest
