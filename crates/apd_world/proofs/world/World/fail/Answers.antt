use Rattle.apd_world.proofs.FailLemmas.{failed_follows, failed_leads}
use Rattle.apd_world.proofs.world.World.fail.Goals as goal

pub returns-clause-failed : goal.returns-clause-failed
returns-clause-failed g c =
    let only = c.fail.ensures.only in
    record { only = λ i. record c.args.self.now { durable = only i }; safe = c.fail.ensures.safe }

pub returns-clause-following : goal.returns-clause-following
returns-clause-following g c = failed_follows g.D.Disk.model c.args.self.now _ (returns-clause-failed g c)

pub returns-clause-leads : goal.returns-clause-leads
returns-clause-leads g c = failed_leads g.D.Disk.model c.args.self.now _ (returns-clause-failed g c)
