use Rattle.apd_ctrl.specs.Placing.{placing}
use Rattle.apd_script.proofs.Doing.{carried_out, not_carried_out, on_ok, still_undone, then_ok, unprinted}
use Rattle.apd_script.specs.Faults.{IsNoRefusal}
use Rattle.apd_script.proofs.script.runner.Runner.carry_out.Goals as goal

pub returns-in-Ok-clause-ok : goal.returns-in-Ok-clause-ok
returns-in-Ok-clause-ok g c =
    then_ok _ _ c.ask_or_do.result (carried_out g.D.Disk.model g.R.Radio.model c.args.tag c.args.text.now (placing c.in-Ok.what) c.args.self.now c.ask_or_do.new.self c.in-Ok.ensures)
    c.ask_or_do.ensures.ok

pub returns-in-Ok-clause-err : goal.returns-in-Ok-clause-err
returns-in-Ok-clause-err g c =
    still_undone _ _ c.ask_or_do.result (carried_out g.D.Disk.model g.R.Radio.model c.args.tag c.args.text.now (placing c.in-Ok.what) c.args.self.now c.ask_or_do.new.self c.in-Ok.ensures)
    c.ask_or_do.ensures.err

pub returns-in-Err-clause-ok : goal.returns-in-Err-clause-ok
returns-in-Err-clause-ok g c =
    on_ok _ c.print_reply.result (not_carried_out g.D.Disk.model g.R.Radio.model c.args.tag c.args.text.now c.in-Err.refusal c.args.self.now c.in-Err.ensures)

pub returns-in-Err-clause-err : goal.returns-in-Err-clause-err
returns-in-Err-clause-err g c =
    unprinted _ IsNoRefusal c.print_reply.result (not_carried_out g.D.Disk.model g.R.Radio.model c.args.tag c.args.text.now c.in-Err.refusal c.args.self.now c.in-Err.ensures)
    c.print_reply.ensures
