use Rattle.apd_script.specs.Script.{Flushes}
use Rattle.apd_script.proofs.Doing.{on_ok, unprinted}
use Rattle.apd_script.proofs.script.runner.Runner.flush_and_print.Goals as goal

pub returns-clause-ok : goal.returns-clause-ok
returns-clause-ok g c = on_ok (Flushes g.D.Disk.model g.R.Radio.model c.args.self.now c.flush.new.self) c.print_answers.result (c.in_ok-answers.ensures.ok c.in_default.is)

pub returns-clause-err : goal.returns-clause-err
returns-clause-err g c = unprinted (Flushes g.D.Disk.model g.R.Radio.model c.args.self.now c.flush.new.self) _ c.print_answers.result (c.in_ok-answers.ensures.ok c.in_default.is) c.print_answers.ensures
