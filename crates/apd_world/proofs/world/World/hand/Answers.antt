use Rattle.std.proofs.Common.{refl, sym, subst}
use Rattle.apd_world.proofs.Words.{Hand, IsWorldStep, Recipient}
use Rattle.apd_world.proofs.Joining.{control_joins}
use Rattle.apd_world.proofs.world.World.hand.Goals as goal

pub returns-in-Radio-clause-step : goal.returns-in-Radio-clause-step
returns-in-Radio-clause-step g c =
    subst (λ (r : Recipient). IsWorldStep g.R.Radio.model (Hand r) c.queue_ready.result c.args.self.now c.queue_ready.new.self) (sym c.in-Radio.is) c.queue_ready.ensures.step

pub returns-in-Control-clause-step : goal.returns-in-Control-clause-step
returns-in-Control-clause-step g c =
    let old = c.args.self.now in
    control_joins g.R.Radio.model c.args.to c.step.result old (record old { durable = c.step.new.self }) c.in-Control.is refl c.step.ensures.step
