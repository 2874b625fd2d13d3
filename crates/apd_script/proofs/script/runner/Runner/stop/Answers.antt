use Rattle.std.proofs.Common.{Err, IfErr, ap, subst, sym, ◌∙◌}
use Rattle.std.proofs.lemmas.Result.{err_from_is_err_and}
use Rattle.apd_script.specs.Faults.{IsSaidFault}
use Rattle.apd_script.specs.Lines.{Stop}
use Rattle.apd_script.proofs.Stopping.{stops_ok, unprinted_stop, unstarted_stop}
use Rattle.apd_script.proofs.script.runner.Runner.stop.Goals as goal

pub returns-clause-ok : goal.returns-clause-ok
returns-clause-ok g c =
    stops_ok g.D.Disk.model g.R.Radio.model c.start_or_give_up.result c.args.self c.in_ok-begin_anew.field-0 c.in_ok-runner.runner
    c.in_ok-begin_anew.ensures.ok c.in_ok-runner.ensures.ok c.start_or_give_up.ensures.ok

pub returns-clause-err : goal.returns-clause-err
returns-clause-err g c =
    unstarted_stop g.D.Disk.model g.R.Radio.model c.start_or_give_up.result c.args.number c.args.self c.in_ok-begin_anew.field-0 c.in_ok-runner.runner
    c.in_ok-begin_anew.ensures.ok c.in_ok-runner.ensures.ok c.start_or_give_up.ensures.err

pub returns-in_err-runner-clause-err : goal.returns-in_err-runner-clause-err
returns-in_err-runner-clause-err g c =
    let told = err_from_is_err_and c.from_residual-in_err-runner.result c.from_residual-in_err-runner.ensures.1 in
    subst (λ r. IfErr r (IsSaidFault g.D.Disk.model g.R.Radio.model c.args.number Stop c.args.self)) (sym (told.1 ∙ ap Err told.2))
    (unprinted_stop g.D.Disk.model g.R.Radio.model c.in_err-runner.field-0.0 c.args.number c.args.self c.in_ok-begin_anew.field-0 c.in_ok-begin_anew.ensures.ok c.in_err-runner.ensures.err)
