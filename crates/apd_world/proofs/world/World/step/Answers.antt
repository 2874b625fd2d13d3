use Rattle.apd_world.proofs.FollowLemmas.{following}
use Rattle.apd_world.proofs.HistoryLemmas.{one_leads}
use Rattle.apd_world.proofs.world.World.step.Goals as goal

pub returns-clause-stops : goal.returns-clause-stops
returns-clause-stops g c = (c.stops.ensures, c.stops-2.ensures)

pub returns-clause-following : goal.returns-clause-following
returns-clause-following g c = following g.R.Radio.model c.args.self.now c.make-told.new.self c.args.step.now c.make-told.result c.make-told.ensures.step

pub returns-clause-leads : goal.returns-clause-leads
returns-clause-leads g c = λ j stands.
    one_leads g.D.Disk.model g.R.Radio.model c.args.step.now c.make-told.result c.args.self.now c.make-told.new.self c.make-told.ensures.step c.make-told.ensures.made j stands
