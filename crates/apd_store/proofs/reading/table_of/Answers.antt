use Rattle.std.proofs.Common.{◌≡◌, ◌+◌, drop, sym, subst, arith, rules}
use Rattle.std.specs.Prelude.{Err}
use Rattle.apd_base.specs.State.{State}
use Rattle.apd_table.specs.declared.table.TableFault.TheVariants.{Invalid}
use Rattle.apd_store.proofs.Replayed.{Replayed, replayed_none, replayed_more, replayed_bad, replayed_all}
use Rattle.apd_store.proofs.reading.table_of.Goals as goal

pub loop-change-init : goal.loop-change-init
loop-change-init c = subst (Replayed c.args.changes.now c.args.changes.now) (sym c.new-table.ensures) (replayed_none c.args.changes.now)

pub loop-change-preserved : goal.loop-change-preserved
loop-change-preserved c =
    subst (λ (s : State). Replayed c.args.changes.now (drop (c.loop-change.change-index + 1) c.args.changes.now) s) (sym c.in_ok-apply.ensures.ok)
    (replayed_more c.args.changes.now c.loop-change.change-index c.change-item.result c.loop-change.table (omega arith) c.change-item.is c.loop-change.invariant c.in_ok-apply.ensures.sound)

pub returns-in_err-apply-clause-invalid : goal.returns-in_err-apply-clause-invalid
returns-in_err-apply-clause-invalid c = λ e.
    let bad : c.apply.result ≡ Err Invalid = search rules in
    replayed_bad c.args.changes.now c.loop-change.change-index c.change-item.result c.loop-change.table (omega arith) c.change-item.is c.loop-change.invariant (c.apply.ensures.invalid bad)

pub returns-clause-ok : goal.returns-clause-ok
returns-clause-ok c = (replayed_all c.args.changes.now c.loop-change.change-index c.loop-change.table c.loop-change-test.false c.loop-change.invariant).0

pub returns-clause-sound : goal.returns-clause-sound
returns-clause-sound c = (replayed_all c.args.changes.now c.loop-change.change-index c.loop-change.table c.loop-change-test.false c.loop-change.invariant).1
