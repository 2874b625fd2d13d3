use Rattle.apd_script.specs.Lines.{saying_of}
use Rattle.apd_script.proofs.Doing.{line_fault, says_ok}
use Rattle.apd_script.proofs.script.runner.Runner.run_line.Goals as goal

pub returns-in-Ok-clause-ok : goal.returns-in-Ok-clause-ok
returns-in-Ok-clause-ok g c =
    says_ok g.D.Disk.model g.R.Radio.model c.do_line.result c.args.number c.args.text.now (saying_of c.in-Ok.line) c.args.self c.in-Ok.ensures.ok
    c.stops.ensures c.do_line.ensures.ok

pub returns-in-Ok-clause-err : goal.returns-in-Ok-clause-err
returns-in-Ok-clause-err g c =
    line_fault g.D.Disk.model g.R.Radio.model c.exactly_one_line.ensures c.do_line.result c.args.number c.args.text.now (saying_of c.in-Ok.line) c.args.self c.in-Ok.ensures.ok c.do_line.ensures.err

pub returns-in-Err-clause-ok : goal.returns-in-Err-clause-ok
returns-in-Err-clause-ok g c = rw c.give_up.ensures tt

pub returns-in-Err-clause-err : goal.returns-in-Err-clause-err
returns-in-Err-clause-err g c = rw c.give_up.ensures c.in-Err.ensures.err
