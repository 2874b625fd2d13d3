use Rattle.std.proofs.Common.{refl, sym, subst}
use Rattle.apd_world.proofs.Words.{IsWorldStep, Step}
use Rattle.apd_world.proofs.Joining.{durable_joins}
use Rattle.apd_world.proofs.world.World.make.Goals as goal

pub returns-in-Hand-clause-step : goal.returns-in-Hand-clause-step
returns-in-Hand-clause-step g c = subst (λ (s : Step). IsWorldStep g.R.Radio.model s c.hand.result c.args.self.now c.hand.new.self) (sym c.in-Hand.is) c.hand.ensures.step

pub returns-in-Apply-clause-step : goal.returns-in-Apply-clause-step
returns-in-Apply-clause-step g c = subst (λ (s : Step). IsWorldStep g.R.Radio.model s c.apply.result c.args.self.now c.apply.new.self) (sym c.in-Apply.is) c.apply.ensures.step

pub returns-in_default-clause-step : goal.returns-in_default-clause-step
returns-in_default-clause-step g c =
    let old = c.args.self.now in
    durable_joins g.R.Radio.model c.args.step.now c.step.result old (record old { durable = c.step.new.self }) c.in_default.not-Hand c.in_default.not-Apply refl c.step.ensures.step
