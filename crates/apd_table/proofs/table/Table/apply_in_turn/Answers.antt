use Rattle.std.specs.Prelude.{Err}
use Rattle.std.proofs.Common.{◌+◌, drop, sym, ap, subst, ◌∙◌}
use Rattle.apd_table.proofs.Words.{AreDrops, NoNewRow, StaySound, err_from_is_err_and}
use Rattle.apd_table.proofs.InTurn.{dropped, next, stay_first}
use Rattle.apd_table.proofs.table.Table.apply_in_turn.Goals as goal

pub returns-in_err-apply-clause-ok : goal.returns-in_err-apply-clause-ok
returns-in_err-apply-clause-ok c =
    let told = err_from_is_err_and c.from_residual.result c.from_residual.ensures.1 in
    rw told.1 tt

pub returns-in_err-apply-clause-sound : goal.returns-in_err-apply-clause-sound
returns-in_err-apply-clause-sound c =
    let told = err_from_is_err_and c.from_residual.result c.from_residual.ensures.1 in
    rw told.1 tt

pub returns-in_err-apply-clause-invalid : goal.returns-in_err-apply-clause-invalid
returns-in_err-apply-clause-invalid c e stays =
    let told = err_from_is_err_and c.from_residual.result c.from_residual.ensures.1 in
    let left = subst (λ changes. StaySound changes c.loop-change.self) (next c.args.changes.now c.loop-change.change-index c.change-item.result c.loop-change-test.true c.change-item.is) (c.loop-change.invariant.left stays) in
    c.in_err-apply.ensures.invalid (sym (told.1 ∙ ap Err told.2) ∙ e) (stay_first (drop (c.loop-change.change-index + 1) c.args.changes.now) _ left.1)

pub returns-in_err-apply-clause-memory : goal.returns-in_err-apply-clause-memory
returns-in_err-apply-clause-memory c rows e =
    let told = err_from_is_err_and c.from_residual.result c.from_residual.ensures.1 in
    let left = subst (λ changes. NoNewRow changes c.loop-change.self) (next c.args.changes.now c.loop-change.change-index c.change-item.result c.loop-change-test.true c.change-item.is) (c.loop-change.invariant.rows rows) in
    left.0 (c.in_err-apply.ensures.memory (sym (told.1 ∙ ap Err told.2) ∙ e))

pub returns-in_err-apply-clause-drops : goal.returns-in_err-apply-clause-drops
returns-in_err-apply-clause-drops c drops =
    let told = err_from_is_err_and c.from_residual.result c.from_residual.ensures.1 in
    let left = subst AreDrops (next c.args.changes.now c.loop-change.change-index c.change-item.result c.loop-change-test.true c.change-item.is) (c.loop-change.invariant.drops drops) in
    rw told.1 (dropped c.change-item.result c.in_err-apply.ensures.drop left.0)
