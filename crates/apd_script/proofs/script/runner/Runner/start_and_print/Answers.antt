use Rattle.apd_script.specs.Script.{Starts}
use Rattle.apd_script.proofs.Doing.{on_ok, unprinted}
use Rattle.apd_script.proofs.script.runner.Runner.start_and_print.Goals as goal

pub returns-clause-ok : goal.returns-clause-ok
returns-clause-ok g c = on_ok (Starts g.D.Disk.model g.R.Radio.model c.args.self.now c.start.new.self) c.print_answers.result c.in_ok-answers.ensures.ok

pub returns-clause-err : goal.returns-clause-err
returns-clause-err g c = unprinted (Starts g.D.Disk.model g.R.Radio.model c.args.self.now c.start.new.self) _ c.print_answers.result c.in_ok-answers.ensures.ok c.print_answers.ensures
