use Rattle.std.proofs.Common.{List, sym, ap, subst, ◌∙◌}
use Rattle.apd_table.proofs.Words.{Addr, AllByRecursion, Bssid, IsAddr, in_order, is_at, removed, station_cmp, station_exact, station_total}
use Rattle.std.specs.FinMap as map
use Rattle.apd_table.proofs.StationRows.{Row, valid_removed}
use Rattle.apd_table.proofs.stations.Stations.remove.Goals as goal

pub invariant_of-self : goal.invariant_of-self
invariant_of-self c =
    let key : Bssid × Addr = (c.args.bssid, c.args.addr) in (
      in_order station_cmp c.remove.new.self.entries c.remove.ensures.ordered,
      subst (λ (rows : List Row). AllByRecursion (λ (row : Row). IsAddr row.0.1) rows) (sym c.remove.ensures.entries) (valid_removed (is_at (station_cmp key)) c.self.inside.rows.entries c.self.invariant.1),
    )

pub returns : goal.returns
returns c =
    let key : Bssid × Addr = (c.args.bssid, c.args.addr) in
    removed station_total station_exact c.self.inside.rows.entries c.remove.new.self.entries c.self.invariant.0 (in_order station_cmp c.remove.new.self.entries c.remove.ensures.ordered) key
    (λ q. c.remove.ensures.updates.0 q) ∙ ap (λ m. map.remove m key) c.self.view_is
