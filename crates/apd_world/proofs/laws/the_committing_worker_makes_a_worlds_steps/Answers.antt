use Rattle.std.proofs.Common.{sym, subst}
use Rattle.std.specs.Prelude.{map}
use Rattle.apd_world.specs.WorkerRun.{AreParts, part_of}
use Rattle.apd_world.proofs.FailLemmas.{parts_made}
use Rattle.apd_world.proofs.Words.{World}
use Rattle.apd_world.proofs.laws.the_committing_worker_makes_a_worlds_steps.Goals as goal

pub returns : goal.returns
returns g c = λ steps old new are same last.
    subst (λ (w : World _ _). AreParts g.D.Disk.model g.R.Radio.model (map part_of steps) old w) (sym same)
    (parts_made g.D.Disk.model g.R.Radio.model old steps old.durable.core new.durable.core old.durable.committer new.durable.committer are last)
