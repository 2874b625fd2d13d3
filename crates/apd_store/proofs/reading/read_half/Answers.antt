use Rattle.std.proofs.Common.{List, ◌↔◌, IsTrue, ◌∙◌, ap, subst}
use Rattle.std.specs.Prelude.{Err}
use Rattle.apd_store.proofs.Words.{Change, HalfHolds, HasNoCursor, StaySound, empty_state}
use Rattle.apd_store.proofs.Found.{same_cursor, unsound}
use Rattle.apd_store.proofs.reading.read_half.Goals as goal

pub returns-in_default-clause-damaged : goal.returns-in_default-clause-damaged
returns-in_default-clause-damaged c = λ e epoch gate state x. (rw c.in_default.is at c.in_ok-groups.ensures.none) epoch x.changes gate x.holds

pub returns-in-Err-Invalid-clause-damaged : goal.returns-in-Err-Invalid-clause-damaged
returns-in-Err-Invalid-clause-damaged c = λ e.
    let groups = c.in-Some.groups in
    let holds : HalfHolds c.args.bytes.now groups.epoch groups.changes groups.gate = rw c.in-Some.is at c.in_ok-groups.ensures.some in
    unsound c.args.bytes.now groups.epoch groups.gate groups.changes holds
    (subst (λ (l : List Change). ¬ StaySound l empty_state) c.as_slice.ensures (c.table_of.ensures.invalid (c.in-Err-Invalid.is ∙ ap Err c.in-Err-Invalid.field-0-is)))

pub returns-in-Ok-clause-cursor : goal.returns-in-Ok-clause-cursor
returns-in-Ok-clause-cursor c = λ epoch gate changes given.
    let groups = c.in-Some.groups in
    let holds : HalfHolds c.args.bytes.now groups.epoch groups.changes groups.gate = rw c.in-Some.is at c.in_ok-groups.ensures.some in
    same_cursor c.args.bytes.now groups.epoch epoch groups.gate gate groups.changes changes c.has_no_cursor.result holds
    (subst (λ (l : List Change). IsTrue c.has_no_cursor.result ↔ HasNoCursor l) c.as_slice-in-Ok.ensures c.has_no_cursor.ensures) given
