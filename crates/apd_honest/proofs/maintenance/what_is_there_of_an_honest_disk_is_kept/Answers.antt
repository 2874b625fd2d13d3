use Rattle.apd_honest.proofs.Upkeep.{is_there}
use Rattle.apd_honest.proofs.maintenance.what_is_there_of_an_honest_disk_is_kept.Goals as goal

pub returns-clause-is_there : goal.returns-clause-is_there
returns-clause-is_there g c = is_there g.D.Disk.model g.met.D.HonestDisk.always_honest

pub returns-clause-zeros : goal.returns-clause-zeros
returns-clause-zeros g c = λ device left written. written (g.met.D.HonestDisk.always_honest left)
