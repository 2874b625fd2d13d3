use Rattle.std.proofs.Common.{IsSome, sym, subst}
use Rattle.std.specs.FinMap as map
use Rattle.apd_table.proofs.Words.{BssState, bssid_cmp, placed, with_cursor}
use Rattle.apd_table.proofs.BssWrites.{sorted_after, state_after, state_cursor, cursors_at, has_place}
use Rattle.apd_table.proofs.bss_rows.BssRows.set_cursor.Goals as goal

pub invariant_of-self : goal.invariant_of-self
invariant_of-self c =
    sorted_after c.self.inside.rows.items c.self.invariant c.args.bssid c.in-Ok.at (placed bssid_cmp c.args.bssid c.self.inside.rows.items _ c.deref.ensures.value c.self.invariant _ c.in-Ok.ensures.exact)
    (with_cursor c.args.last) c.set_cursor_at.new.rows.items c.set_cursor_at.ensures

pub returns-in-Ok : goal.returns-in-Ok
returns-in-Ok c =
    state_after c.self.inside.rows.items c.self.invariant c.args.bssid c.in-Ok.at (placed bssid_cmp c.args.bssid c.self.inside.rows.items _ c.deref.ensures.value c.self.invariant _ c.in-Ok.ensures.exact)
    (with_cursor c.args.last) c.set_cursor_at.new.rows.items c.set_cursor_at.ensures (cursors_at c.args.bssid c.args.last) (λ x found. state_cursor c.self.inside.rows.items c.self.invariant c.args.bssid x found c.args.last) _ c.self.view_is

-- a BSSID with a policy has a row
pub returns-in_default : goal.returns-in_default
returns-in_default c =
    has_place c.self.inside.rows.items c.self.invariant c.args.bssid c.in_default.field-0 (placed bssid_cmp c.args.bssid c.self.inside.rows.items _ c.deref.ensures.value c.self.invariant _ c.in_default.ensures.exact)
    (subst (λ (s : BssState). IsSome (map.get s.policies c.args.bssid)) (sym c.self.view_is) c.requires)
