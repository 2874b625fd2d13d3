use Rattle.apd_honest.proofs.Outright.{not_recovered, recovered}
use Rattle.apd_honest.proofs.stores.a_recovery_of_an_honest_disk_is_right.Goals as goal

pub returns-clause-found : goal.returns-clause-found
returns-clause-found g c = recovered g.D.Disk.model g.met.D.HonestDisk.always_honest g.met.D.Disk.reads_may_be_left

pub returns-clause-none : goal.returns-clause-none
returns-clause-none g c = not_recovered g.D.Disk.model g.met.D.HonestDisk.always_honest
