use Rattle.std.proofs.Common.{◌≤◌, IfSome, sym, ap, subst, ◌∙◌}
use Rattle.std.specs.FinMap as map
use Rattle.apd_table.proofs.Words.{BssState, bssid_cmp, bssid_exact, bssid_total, placed, with_row}
use Rattle.apd_table.proofs.BssWrites.{sorted_after, state_after, row_members, state_row, same_members, members_with, absent_at}
use Rattle.apd_table.proofs.bss_rows.BssRows.change_row.Goals as goal

pub change_row_at-requires-clause-few : goal.change_row_at-requires-clause-few
change_row_at-requires-clause-few c =
    row_members c.self.inside.rows.items c.self.invariant c.args.bssid c.in-Ok.at (placed bssid_cmp c.args.bssid c.self.inside.rows.items _ c.deref.ensures.value c.self.invariant _ c.in-Ok.ensures.exact)
    (λ x. x.count ≤ 2007) (subst (λ (s : BssState). IfSome (map.get s.members c.args.bssid) (λ x. x.count ≤ 2007)) (sym c.self.view_is) c.requires)

pub invariant_of-self : goal.invariant_of-self
invariant_of-self c =
    sorted_after c.self.inside.rows.items c.self.invariant c.args.bssid c.in-Ok.at (placed bssid_cmp c.args.bssid c.self.inside.rows.items _ c.deref.ensures.value c.self.invariant _ c.in-Ok.ensures.exact)
    (with_row c.args.old c.args.new) c.change_row_at.new.rows.items c.change_row_at.ensures

pub returns-in-Ok : goal.returns-in-Ok
returns-in-Ok c =
    state_after c.self.inside.rows.items c.self.invariant c.args.bssid c.in-Ok.at (placed bssid_cmp c.args.bssid c.self.inside.rows.items _ c.deref.ensures.value c.self.invariant _ c.in-Ok.ensures.exact)
    (with_row c.args.old c.args.new) c.change_row_at.new.rows.items c.change_row_at.ensures (members_with c.args.old c.args.new c.args.bssid) (λ x found. state_row c.self.inside.rows.items c.self.invariant c.args.bssid x found c.args.old c.args.new) _ c.self.view_is

pub returns-in_default : goal.returns-in_default
returns-in_default c =
    let xs = c.self.inside.rows.items in
    let is = placed bssid_cmp c.args.bssid c.self.inside.rows.items _ c.deref.ensures.value c.self.invariant _ c.in_default.ensures.exact in
    sym c.self.view_is ∙ same_members xs c.self.invariant c.args.bssid (absent_at bssid_total bssid_exact c.args.bssid xs c.self.invariant c.in_default.field-0 (sym is)) c.args.old c.args.new
    ∙ ap (members_with c.args.old c.args.new c.args.bssid) c.self.view_is
