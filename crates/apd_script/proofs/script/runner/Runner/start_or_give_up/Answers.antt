use Rattle.apd_script.specs.Script.{Starts}
use Rattle.apd_script.proofs.Doing.{kept_ok, kept_unstarted}
use Rattle.apd_script.proofs.script.runner.Runner.start_or_give_up.Goals as goal

pub returns-clause-ok : goal.returns-clause-ok
returns-clause-ok g c = kept_ok (Starts g.D.Disk.model g.R.Radio.model c.args.self) c.start_and_print-done.result c.keep_if.result c.start_and_print-done.new.self c.keep_if.ensures.ok c.keep_if.ensures.err c.start_and_print-done.ensures.ok

pub returns-clause-err : goal.returns-clause-err
returns-clause-err g c = kept_unstarted g.D.Disk.model g.R.Radio.model c.start_and_print-done.result c.keep_if.result c.args.self c.start_and_print-done.new.self c.keep_if.ensures.ok c.keep_if.ensures.err c.start_and_print-done.ensures.err
