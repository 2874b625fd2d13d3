use Rattle.std.proofs.Common.{refl, ap, subst, ◌∙◌, Err}
use Rattle.std.proofs.lemmas.Result.{err_from_is_err_and}
use Rattle.apd_conf.specs.Confs.{AreConfs}
use Rattle.apd_conf.proofs.Refusals.{told, taken, untaken}
use Rattle.apd_conf.proofs.confs.Confs.new.Goals as goal

pub returns-in_err-check-clause-ok : goal.returns-in_err-check-clause-ok
returns-in_err-check-clause-ok c =
    let p = err_from_is_err_and c.from_residual.result c.from_residual.ensures.1 in
    untaken c.args.list.items c.in_err-check.field-0.0 c.from_residual.result (rw c.deref.ensures.value at c.in_err-check.ensures.err) (p.1 ∙ ap Err p.2)

pub returns-in_err-check-clause-err : goal.returns-in_err-check-clause-err
returns-in_err-check-clause-err c =
    let p = err_from_is_err_and c.from_residual.result c.from_residual.ensures.1 in
    told c.args.list.items c.in_err-check.field-0.0 c.from_residual.result (rw c.deref.ensures.value at c.in_err-check.ensures.err) (p.1 ∙ ap Err p.2)

pub returns-clause-err : goal.returns-clause-err
returns-clause-err c = taken c.args.list.items _ _ (subst AreConfs c.deref.ensures.value c.in_ok-check.ensures.ok) refl
