use Rattle.std.proofs.Common.{None, Ok, refl, zero}
use Rattle.apd_core.specs.declared.input.Input.TheVariants as input
use Rattle.apd_world.specs.declared.step.Step.TheVariants.{Accept}
use Rattle.apd_script.proofs.Doing.{requested_ok, still_undone}
use Rattle.apd_script.proofs.script.runner.Runner.tick.Goals as goal

pub returns-clause-ok : goal.returns-clause-ok
returns-clause-ok g c =
    requested_ok g.D.Disk.model g.R.Radio.model c.accept.result None (Accept input.Tick c.args.moment) (record c.args.self.now { moment = c.args.moment }) c.accept.new.self refl c.accept.ensures.ok

pub returns-clause-err : goal.returns-clause-err
returns-clause-err g c =
    still_undone _ _ c.accept.result (λ made. requested_ok g.D.Disk.model g.R.Radio.model (Ok zero) None (Accept input.Tick c.args.moment) (record c.args.self.now { moment = c.args.moment }) c.accept.new.self refl made) c.accept.ensures.err
