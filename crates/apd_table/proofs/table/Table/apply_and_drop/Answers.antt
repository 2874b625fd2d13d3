use Rattle.std.specs.Prelude.{Err}
use Rattle.std.proofs.Common.{sym, ap, ◌∙◌}
use Rattle.std.proofs.lemmas.Result.{err_from_is_err_and}
use Rattle.apd_table.proofs.InTurn.{dropped, stay_first}
use Rattle.apd_table.proofs.table.Table.apply_and_drop.Goals as goal

pub returns-in_err-apply-clause-ok : goal.returns-in_err-apply-clause-ok
returns-in_err-apply-clause-ok c =
    let told = err_from_is_err_and c.from_residual.result c.from_residual.ensures.1 in
    rw told.1 tt

pub returns-in_err-apply-clause-sound : goal.returns-in_err-apply-clause-sound
returns-in_err-apply-clause-sound c =
    let told = err_from_is_err_and c.from_residual.result c.from_residual.ensures.1 in
    rw told.1 tt

pub returns-in_err-apply-clause-invalid : goal.returns-in_err-apply-clause-invalid
returns-in_err-apply-clause-invalid c e stays =
    let told = err_from_is_err_and c.from_residual.result c.from_residual.ensures.1 in
    c.in_err-apply.ensures.invalid (sym (told.1 ∙ ap Err told.2) ∙ e) (stay_first c.args.drops.now _ stays.1)

pub returns-in_err-apply-clause-memory : goal.returns-in_err-apply-clause-memory
returns-in_err-apply-clause-memory c e =
    let told = err_from_is_err_and c.from_residual.result c.from_residual.ensures.1 in
    c.in_err-apply.ensures.memory (sym (told.1 ∙ ap Err told.2) ∙ e)

pub returns-in_err-apply-clause-drop : goal.returns-in_err-apply-clause-drop
returns-in_err-apply-clause-drop c d =
    let told = err_from_is_err_and c.from_residual.result c.from_residual.ensures.1 in
    rw told.1 (dropped c.args.first.now c.in_err-apply.ensures.drop d)

pub returns-in_err-apply-clause-err : goal.returns-in_err-apply-clause-err
returns-in_err-apply-clause-err c =
    let told = err_from_is_err_and c.from_residual.result c.from_residual.ensures.1 in
    rw told.1 c.in_err-apply.ensures.err
