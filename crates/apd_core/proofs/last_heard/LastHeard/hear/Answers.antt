use Rattle.std.proofs.Common.{◌≡◌, true, false, cond, is_some, sym, ap, ◌∙◌}
use Rattle.std.specs.FinMap as map
use Rattle.apd_core.proofs.Words.{Addr, Bssid, get_lookup, heard_from, in_order, inserted, option_copied_mut, station_cmp, station_exact, station_total}
use Rattle.apd_core.specs.contracts.last_heard.LastHeard.{the_invariant, the_view}
use Rattle.apd_core.proofs.last_heard.LastHeard.hear.Goals.{in-Some, in_default}
use Rattle.apd_core.proofs.last_heard.LastHeard.hear.Goals as goal

pub invariant_of-self : goal.invariant_of-self
invariant_of-self c =
    elim c.match-get_mut.branch as (λ _. the_invariant c.match-get_mut.self-inside) [
      | in-Some w ↦ rw w.self-inside-is (in_order station_cmp (c.get_mut.follows.lender c.args.moment).entries (c.get_mut.follows.holds c.args.moment).4)
      | in_default w ↦ rw (w.self-inside-is, c.get_mut.follows.holds-at-none) c.self.invariant
    ]

pub returns : goal.returns
returns c =
    let key : Bssid × Addr = (c.args.bssid, c.args.addr) in
    let m = c.args.moment in
    let now = c.args.self.now in
    let old = c.self.inside.rows in
    let looked = get_lookup station_cmp old.entries c.self.invariant key ∙ ap (λ heard. map.get heard key) c.self.view_is in
    elim c.match-get_mut.branch as (λ _. the_view c.match-get_mut.self-inside ≡ heard_from m c.args.bssid c.args.addr now) [
      | in-Some w ↦
          let new = c.get_mut.follows.lender m in
          let found = ap (λ row. is_some (option_copied_mut row)) w.in-Some.is in
          let there : is_some (map.get now key) ≡ true = ap is_some (sym looked ∙ sym c.get_mut.ensures.value) ∙ found in
          rw w.self-inside-is (inserted station_total station_exact old.entries new.entries c.self.invariant (in_order station_cmp new.entries (c.get_mut.follows.holds m).4) key m
          (λ q. ((c.get_mut.follows.holds m).3 (ap is_some (sym c.get_mut.ensures.value) ∙ found)).0 q)
          ∙ ap (λ heard. map.insert heard key m) c.self.view_is ∙ sym (ap (λ t. cond t (map.insert now key m) now) there))
      | in_default w ↦
          let none : is_some (map.get now key) ≡ false = ap is_some (sym looked ∙ sym c.get_mut.ensures.value) ∙ ap (λ row. is_some (option_copied_mut row)) w.in_default.is in
          rw (w.self-inside-is, c.get_mut.follows.holds-at-none) (c.self.view_is ∙ sym (ap (λ t. cond t (map.insert now key m) now) none))
    ]
