use Rattle.std.proofs.Common.{◌++◌, append_assoc, ap, ◌∙◌}
use Rattle.apd_table.proofs.Words.{BssState, cursor_changes, cursors_of_rows, list_changes, lists_of_rows, policies_of_rows, policy_changes}
use Rattle.apd_table.proofs.RowChanges.{policies_are, cursors_are, lists_are}
use Rattle.apd_table.proofs.bss_rows.BssRows.add_changes.Goals as goal

pub returns : goal.returns
returns c =
    let rows = c.self.inside.rows.items in
    let before = c.args.changes.now in
    c.in_ok-add_lists.ensures ∙ ap (λ xs. c.add_cursors.new.changes ++ lists_of_rows xs) c.deref-3.ensures.value
    ∙ ap (λ xs. xs ++ lists_of_rows rows)
    (c.in_ok-add_cursors.ensures ∙ ap (λ xs. c.add_policies.new.changes ++ cursors_of_rows xs) c.deref-2.ensures.value
    ∙ ap (λ xs. xs ++ cursors_of_rows rows) (c.in_ok-add_policies.ensures ∙ ap (λ xs. before ++ policies_of_rows xs) c.deref.ensures.value))
    ∙ append_assoc (before ++ policies_of_rows rows) (cursors_of_rows rows) (lists_of_rows rows)
    ∙ append_assoc before (policies_of_rows rows) (cursors_of_rows rows ++ lists_of_rows rows)
    ∙ (λ i. before ++ (policies_are rows c.self.invariant i ++ (cursors_are rows c.self.invariant i ++ lists_are rows c.self.invariant i)))
    ∙ ap (λ (s : BssState). before ++ (policy_changes s.policies ++ (cursor_changes s.cursors ++ list_changes s.lists))) c.self.view_is
