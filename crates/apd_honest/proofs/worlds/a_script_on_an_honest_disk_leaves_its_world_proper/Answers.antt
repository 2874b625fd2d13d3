use Rattle.apd_honest.proofs.Begun.{proper_on_a_store, stays_proper_in_a_script}
use Rattle.apd_honest.proofs.worlds.a_script_on_an_honest_disk_leaves_its_world_proper.Goals as goal

pub returns-clause-world : goal.returns-clause-world
returns-clause-world g c = stays_proper_in_a_script g.D.Disk.model g.met.D.HonestDisk.always_honest g.R.Radio.model

pub returns-clause-store : goal.returns-clause-store
returns-clause-store g c = proper_on_a_store g.D.Disk.model g.met.D.HonestDisk.always_honest g.R.Radio.model
