use Rattle.apd_honest.proofs.Begun.{begun, not_begun}
use Rattle.apd_honest.proofs.worlds.a_world_is_begun_anew_from_an_honest_disk.Goals as goal

pub returns-clause-begun : goal.returns-clause-begun
returns-clause-begun g c = begun g.D.Disk.model g.met.D.HonestDisk.always_honest

pub returns-clause-none : goal.returns-clause-none
returns-clause-none g c = not_begun g.D.Disk.model g.met.D.HonestDisk.always_honest

pub returns-clause-slot : goal.returns-clause-slot
returns-clause-slot g c = λ device left b fault old new ends. (ends.table, ends.shown (g.met.D.HonestDisk.always_honest left), ends.not_resumed)
