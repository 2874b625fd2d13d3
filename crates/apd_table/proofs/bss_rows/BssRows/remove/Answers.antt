use Rattle.std.proofs.Common.{sym, ap, ◌∙◌}
use Rattle.apd_table.proofs.Words.{bssid_cmp, bssid_exact, bssid_total, placed, with_removed}
use Rattle.apd_table.proofs.BssWrites.{sorted_after, state_after, state_removed, same_removed, lists_without, absent_at}
use Rattle.apd_table.proofs.bss_rows.BssRows.remove.Goals as goal

pub invariant_of-self : goal.invariant_of-self
invariant_of-self c =
    sorted_after c.self.inside.rows.items c.self.invariant c.args.bssid c.in-Ok.at (placed bssid_cmp c.args.bssid c.self.inside.rows.items _ c.deref.ensures.value c.self.invariant _ c.in-Ok.ensures.exact)
    (with_removed c.args.which c.args.addr) c.remove_at.new.rows.items c.remove_at.ensures

pub returns-in-Ok : goal.returns-in-Ok
returns-in-Ok c =
    state_after c.self.inside.rows.items c.self.invariant c.args.bssid c.in-Ok.at (placed bssid_cmp c.args.bssid c.self.inside.rows.items _ c.deref.ensures.value c.self.invariant _ c.in-Ok.ensures.exact)
    (with_removed c.args.which c.args.addr) c.remove_at.new.rows.items c.remove_at.ensures (lists_without c.args.bssid c.args.which c.args.addr) (λ x found. state_removed c.self.inside.rows.items c.self.invariant c.args.bssid x found c.args.which c.args.addr) _ c.self.view_is

pub returns-in_default : goal.returns-in_default
returns-in_default c =
    let xs = c.self.inside.rows.items in
    let is = placed bssid_cmp c.args.bssid c.self.inside.rows.items _ c.deref.ensures.value c.self.invariant _ c.in_default.ensures.exact in
    sym c.self.view_is ∙ same_removed xs c.self.invariant c.args.bssid (absent_at bssid_total bssid_exact c.args.bssid xs c.self.invariant c.in_default.field-0 (sym is)) c.args.which c.args.addr
    ∙ ap (lists_without c.args.bssid c.args.which c.args.addr) c.self.view_is
