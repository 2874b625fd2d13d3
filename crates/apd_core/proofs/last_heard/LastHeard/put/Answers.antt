use Rattle.std.proofs.Common.{IsSome, sym, ap, subst, ◌∙◌}
use Rattle.std.specs.FinMap as map
use Rattle.apd_core.proofs.Words.{Addr, Bssid, get_lookup, in_order, inserted, none_is, station_cmp, station_exact, station_total}
use Rattle.apd_core.proofs.last_heard.LastHeard.put.Goals as goal

pub invariant_of-self-2 : goal.invariant_of-self-2
invariant_of-self-2 c = in_order station_cmp c.insert.new.self.entries c.in_ok-insert.ensures.ordered

pub returns-clause-ok : goal.returns-clause-ok
returns-clause-ok c =
    let key : Bssid × Addr = (c.args.bssid, c.args.addr) in
    inserted station_total station_exact c.self.inside.rows.entries c.insert.new.self.entries c.self.invariant (in_order station_cmp c.insert.new.self.entries c.in_ok-insert.ensures.ordered) key c.args.moment
    (λ q. c.in_ok-insert.ensures.updates.0 q) ∙ ap (λ m. map.insert m key c.args.moment) c.self.view_is

-- memory is wanting only where there is no row
pub returns-in_err-insert-clause-over : goal.returns-in_err-insert-clause-over
returns-in_err-insert-clause-over c found =
    let key : Bssid × Addr = (c.args.bssid, c.args.addr) in
    none_is _ c.in_err-insert.ensures.absent (subst IsSome (sym (get_lookup station_cmp c.self.inside.rows.entries c.self.invariant key ∙ ap (λ m. map.get m key) c.self.view_is)) found)
