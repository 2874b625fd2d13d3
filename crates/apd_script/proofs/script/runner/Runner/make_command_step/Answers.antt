use Rattle.apd_script.specs.Script.{IsMade}
use Rattle.apd_script.proofs.Doing.{on_ok, unprinted}
use Rattle.apd_script.specs.Faults.{IsNoRefusal}
use Rattle.apd_script.proofs.script.runner.Runner.make_command_step.Goals as goal

pub returns-clause-ok : goal.returns-clause-ok
returns-clause-ok g c = on_ok (IsMade g.D.Disk.model g.R.Radio.model c.args.step.now c.args.self.now c.make_or_fault.new.self) c.print_command_told.result c.in_ok-told.ensures.ok

pub returns-clause-err : goal.returns-clause-err
returns-clause-err g c = unprinted (IsMade g.D.Disk.model g.R.Radio.model c.args.step.now c.args.self.now c.make_or_fault.new.self) IsNoRefusal c.print_command_told.result c.in_ok-told.ensures.ok c.print_command_told.ensures
