use Rattle.apd_script.specs.Lines.{saying_of}
use Rattle.apd_script.specs.Faults.{IsSaidFault}
use Rattle.apd_script.specs.Script.{IsRun}
use Rattle.apd_script.proofs.Doing.{kept_err, kept_ok}
use Rattle.apd_script.proofs.script.runner.Runner.do_line.Goals as goal

pub returns-in-Stop-clause-ok : goal.returns-in-Stop-clause-ok
returns-in-Stop-clause-ok g c = rw c.in-Stop.is c.stop.ensures.ok

pub returns-in-Stop-clause-err : goal.returns-in-Stop-clause-err
returns-in-Stop-clause-err g c = rw c.in-Stop.is c.stop.ensures.err

pub returns-in_default-clause-ok : goal.returns-in_default-clause-ok
returns-in_default-clause-ok g c =
    kept_ok (IsRun g.D.Disk.model g.R.Radio.model c.args.number (saying_of c.args.line.now) c.args.self) c.act_on-done.result c.keep_if.result c.act_on-done.new.self c.keep_if.ensures.ok c.keep_if.ensures.err
    (c.act_on-done.ensures.ok c.in_default.not-Stop)

pub returns-in_default-clause-err : goal.returns-in_default-clause-err
returns-in_default-clause-err g c =
    kept_err (IsSaidFault g.D.Disk.model g.R.Radio.model c.args.number (saying_of c.args.line.now) c.args.self) c.act_on-done.result c.keep_if.result c.act_on-done.new.self c.keep_if.ensures.ok c.keep_if.ensures.err c.act_on-done.ensures.err
