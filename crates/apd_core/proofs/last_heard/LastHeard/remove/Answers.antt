use Rattle.std.proofs.Common.{ap, ◌∙◌}
use Rattle.std.specs.FinMap as map
use Rattle.apd_core.proofs.Words.{Addr, Bssid, in_order, removed, station_cmp, station_exact, station_total}
use Rattle.apd_core.proofs.last_heard.LastHeard.remove.Goals as goal

pub invariant_of-self : goal.invariant_of-self
invariant_of-self c = in_order station_cmp c.remove.new.self.entries c.remove.ensures.ordered

pub returns : goal.returns
returns c =
    let key : Bssid × Addr = (c.args.bssid, c.args.addr) in
    removed station_total station_exact c.self.inside.rows.entries c.remove.new.self.entries c.self.invariant (in_order station_cmp c.remove.new.self.entries c.remove.ensures.ordered) key
    (λ q. c.remove.ensures.updates.0 q) ∙ ap (λ m. map.remove m key) c.self.view_is
