use Rattle.std.proofs.Common.{IsSome, IsTrue, sym, subst}
use Rattle.std.specs.FinMap as map
use Rattle.apd_table.proofs.Words.{Bss, BssState, Bssid, bssid_cmp, contains, placed, with_added}
use Rattle.apd_table.proofs.BssWrites.{sorted_either, added_on_ok, has_row, has_place, row}
use Rattle.apd_table.proofs.bss_rows.BssRows.add.Goals as goal

pub invariant_of-self : goal.invariant_of-self
invariant_of-self c =
    sorted_either c.self.inside.rows.items c.self.invariant c.args.bssid c.in-Ok.at (placed bssid_cmp c.args.bssid c.self.inside.rows.items _ c.deref.ensures.value c.self.invariant _ c.in-Ok.ensures.exact)
    (with_added c.args.which c.args.addr) c.add_at.new.rows.items c.add_at.result c.add_at.ensures.ok c.add_at.ensures.err

pub returns-in-Ok-clause-ok : goal.returns-in-Ok-clause-ok
returns-in-Ok-clause-ok c =
    rw (← c.self.view_is) (added_on_ok c.self.inside.rows.items c.self.invariant c.args.bssid c.in-Ok.at (placed bssid_cmp c.args.bssid c.self.inside.rows.items _ c.deref.ensures.value c.self.invariant _ c.in-Ok.ensures.exact)
    c.args.which c.args.addr c.add_at.new.rows.items c.add_at.result c.add_at.ensures.ok)

pub returns-in-Ok-clause-over : goal.returns-in-Ok-clause-over
returns-in-Ok-clause-over c listed =
    let is = (placed bssid_cmp c.args.bssid c.self.inside.rows.items _ c.deref.ensures.value c.self.invariant _ c.in-Ok.ensures.exact) in
    let entry = row c.self.inside.rows.items c.self.invariant c.args.bssid c.in-Ok.at is (with_added c.args.which c.args.addr) c.self.inside.rows.items in
    let d : Bssid × Bss = (c.args.bssid, entry.0) in
    c.add_at.ensures.over d (has_row c.self.inside.rows.items c.self.invariant c.args.bssid c.in-Ok.at is c.args.which c.args.addr
    (subst (λ (s : BssState). IsTrue (contains s.lists (c.args.bssid, c.args.which, c.args.addr))) (sym c.self.view_is) listed) d)

pub returns-in-Err-clause-ok : goal.returns-in-Err-clause-ok
returns-in-Err-clause-ok c =
    has_place c.self.inside.rows.items c.self.invariant c.args.bssid c.in-Err.field-0 (placed bssid_cmp c.args.bssid c.self.inside.rows.items _ c.deref.ensures.value c.self.invariant _ c.in-Err.ensures.exact)
    (subst (λ (s : BssState). IsSome (map.get s.policies c.args.bssid)) (sym c.self.view_is) c.requires)
