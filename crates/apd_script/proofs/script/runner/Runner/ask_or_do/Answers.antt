use Rattle.std.proofs.Common.{ap, refl, Ok, Some, zero}
use Rattle.apd_core.specs.Requests.{order_happening}
use Rattle.apd_core.specs.declared.input.Input.TheVariants as input
use Rattle.apd_ctrl.specs.Placing.{placing, Asks, Does}
use Rattle.apd_event.specs.Happening.{happening}
use Rattle.apd_world.specs.declared.step.Step.TheVariants.{Accept}
use Rattle.apd_script.proofs.Doing.{placed_ok, requested_ok, still_undone}
use Rattle.apd_script.proofs.script.runner.Runner.ask_or_do.Goals as goal

pub returns-in-Ask-clause-ok : goal.returns-in-Ask-clause-ok
returns-in-Ask-clause-ok g c = placed_ok g.D.Disk.model g.R.Radio.model c.make_command_step.result (placing c.args.what) (Asks c.in-Ask.query) c.args.self.now c.make_command_step.new.self (ap placing c.in-Ask.is) c.make_command_step.ensures.ok

pub returns-in-Do-clause-ok : goal.returns-in-Do-clause-ok
returns-in-Do-clause-ok g c =
    placed_ok g.D.Disk.model g.R.Radio.model c.make_command_step-in-Do.result (placing c.args.what) (Does (happening c.in-Do.event)) c.args.self.now c.make_command_step-in-Do.new.self (ap placing c.in-Do.is)
    (requested_ok g.D.Disk.model g.R.Radio.model c.make_command_step-in-Do.result (Some (order_happening (happening c.in-Do.event))) (Accept (input.Order c.in-Do.event) c.args.self.now.moment) c.args.self.now c.make_command_step-in-Do.new.self refl c.make_command_step-in-Do.ensures.ok)

pub returns-in-Ask-clause-err : goal.returns-in-Ask-clause-err
returns-in-Ask-clause-err g c =
    still_undone _ _ c.make_command_step.result (λ made. placed_ok g.D.Disk.model g.R.Radio.model (Ok zero) (placing c.args.what) (Asks c.in-Ask.query) c.args.self.now c.make_command_step.new.self (ap placing c.in-Ask.is) made) c.make_command_step.ensures.err

pub returns-in-Do-clause-err : goal.returns-in-Do-clause-err
returns-in-Do-clause-err g c =
    still_undone _ _ c.make_command_step-in-Do.result (λ made. placed_ok g.D.Disk.model g.R.Radio.model (Ok zero) (placing c.args.what) (Does (happening c.in-Do.event)) c.args.self.now c.make_command_step-in-Do.new.self (ap placing c.in-Do.is)
    (requested_ok g.D.Disk.model g.R.Radio.model (Ok zero) (Some (order_happening (happening c.in-Do.event))) (Accept (input.Order c.in-Do.event) c.args.self.now.moment) c.args.self.now c.make_command_step-in-Do.new.self refl made)) c.make_command_step-in-Do.ensures.err
