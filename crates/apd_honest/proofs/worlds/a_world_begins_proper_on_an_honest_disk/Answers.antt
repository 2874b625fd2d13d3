use Rattle.apd_honest.proofs.Begun.{proper_at_first}
use Rattle.apd_honest.proofs.worlds.a_world_begins_proper_on_an_honest_disk.Goals as goal

pub returns : goal.returns
returns g c = proper_at_first g.D.Disk.model g.met.D.HonestDisk.always_honest
