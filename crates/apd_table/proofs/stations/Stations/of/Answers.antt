use Rattle.std.proofs.Common.{filter, refl, sym, ap, ◌∙◌}
use Rattle.std.specs.FinMap as map
use Rattle.apd_base.specs.Addr.{station_cmp}
use Rattle.apd_base.specs.declared.address.TheConstants.{BROADCAST}
use Rattle.apd_table.specs.Rows.{is_station_row_of}
use Rattle.apd_table.specs.declared.stations.TheConstants.{LEAST}
use Rattle.apd_table.proofs.StationRows.{is_forward, between_is}
use Rattle.apd_table.proofs.stations.Stations.of.Goals as goal

pub range-requires : goal.range-requires
range-requires c = is_forward c.args.bssid LEAST BROADCAST refl refl

pub returns-clause-rows : goal.returns-clause-rows
returns-clause-rows c =
    let rows = c.self.inside.rows.entries in
    c.range.ensures.between tt ∙ between_is c.args.bssid LEAST BROADCAST refl refl rows c.self.invariant.1
    ∙ ap (filter (is_station_row_of c.args.bssid)) (sym (map.entries-from_sorted station_cmp rows c.self.invariant.0) ∙ ap map.entries c.self.view_is)
