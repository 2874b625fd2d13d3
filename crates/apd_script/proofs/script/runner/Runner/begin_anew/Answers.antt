use Rattle.apd_script.proofs.Stopping.{restarts_ok, unrestarted}
use Rattle.apd_script.proofs.script.runner.Runner.begin_anew.Goals as goal

pub returns-in-Ok-clause-ok : goal.returns-in-Ok-clause-ok
returns-in-Ok-clause-ok g c =
    restarts_ok g.D.Disk.model g.R.Radio.model c.restart.result c.args.self c.fresh_parts.new.self c.in-Ok.confs c.in-Ok.slots.items
    c.in-Ok.ensures.ok c.restart.ensures.ok c.restart.ensures.only

pub returns-in-Ok-clause-err : goal.returns-in-Ok-clause-err
returns-in-Ok-clause-err g c =
    unrestarted g.D.Disk.model g.R.Radio.model c.restart.result c.args.number c.args.self c.fresh_parts.new.self c.in-Ok.confs c.in-Ok.slots.items c.in-Ok.ensures.ok c.restart.ensures.err

pub returns-in-Err-clause-ok : goal.returns-in-Err-clause-ok
returns-in-Err-clause-ok g c = rw c.give_up.ensures tt

pub returns-in-Err-clause-err : goal.returns-in-Err-clause-err
returns-in-Err-clause-err g c = rw c.give_up.ensures c.in-Err.ensures.err
