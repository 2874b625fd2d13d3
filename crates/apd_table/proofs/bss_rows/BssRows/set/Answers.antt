use Rattle.std.proofs.Common.{IsSome, refl, sym, ap, subst, ◌∙◌}
use Rattle.std.specs.FinMap as map
use Rattle.apd_table.proofs.Words.{BssState, bssid_cmp, bssid_exact, bssid_total, placed, put_at, state_of_rows, with_policy}
use Rattle.apd_table.proofs.BssWrites.{sorted_after, state_after, state_set, state_new, policies_with, sorted_new, absent_at, has_place}
use Rattle.apd_table.proofs.bss_rows.BssRows.set.Goals as goal

pub invariant_of-self : goal.invariant_of-self
invariant_of-self c =
    sorted_after c.self.inside.rows.items c.self.invariant c.args.bssid c.in-Ok.at (placed bssid_cmp c.args.bssid c.self.inside.rows.items _ c.deref.ensures.value c.self.invariant _ c.in-Ok.ensures.exact)
    (with_policy c.args.policy) c.set_policy_at.new.rows.items c.set_policy_at.ensures

pub returns-in-Ok-clause-ok : goal.returns-in-Ok-clause-ok
returns-in-Ok-clause-ok c =
    state_after c.self.inside.rows.items c.self.invariant c.args.bssid c.in-Ok.at (placed bssid_cmp c.args.bssid c.self.inside.rows.items _ c.deref.ensures.value c.self.invariant _ c.in-Ok.ensures.exact)
    (with_policy c.args.policy) c.set_policy_at.new.rows.items c.set_policy_at.ensures (policies_with c.args.bssid c.args.policy) (λ x found. state_set c.self.inside.rows.items c.self.invariant c.args.bssid x found c.args.policy) _ c.self.view_is

pub invariant_of-self-in-Err : goal.invariant_of-self-in-Err
invariant_of-self-in-Err c =
    sorted_new c.self.inside.rows.items c.self.invariant c.args.bssid c.in-Err.at (placed bssid_cmp c.args.bssid c.self.inside.rows.items _ c.deref.ensures.value c.self.invariant _ c.in-Err.ensures.exact)
    _ c.insert.new.self.items c.in_ok-insert-in-Err.ensures.items

pub returns-in_ok-insert-in-Err-clause-ok : goal.returns-in_ok-insert-in-Err-clause-ok
returns-in_ok-insert-in-Err-clause-ok c =
    let xs = c.self.inside.rows.items in
    let is = (placed bssid_cmp c.args.bssid c.self.inside.rows.items _ c.deref.ensures.value c.self.invariant _ c.in-Err.ensures.exact) in
    ap state_of_rows (c.in_ok-insert-in-Err.ensures.items ∙ ap (put_at xs c.args.bssid _) is)
    ∙ state_new xs c.self.invariant c.args.bssid (absent_at bssid_total bssid_exact c.args.bssid xs c.self.invariant c.in-Err.at (sym is)) _ refl c.new-lists.ensures c.none-members.ensures
    ∙ ap (policies_with c.args.bssid c.args.policy) c.self.view_is

-- memory is wanting only where there is no row
pub returns-in_err-insert-in-Err-clause-over : goal.returns-in_err-insert-in-Err-clause-over
returns-in_err-insert-in-Err-clause-over c found =
    has_place c.self.inside.rows.items c.self.invariant c.args.bssid c.in-Err.at (placed bssid_cmp c.args.bssid c.self.inside.rows.items _ c.deref.ensures.value c.self.invariant _ c.in-Err.ensures.exact)
    (subst (λ (s : BssState). IsSome (map.get s.policies c.args.bssid)) (sym c.self.view_is) found)
