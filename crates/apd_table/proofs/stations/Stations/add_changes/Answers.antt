use Rattle.std.proofs.Common.{◌≡◌, ◌++◌, OnOk, map as list_map, sym, ap, subst, ◌∙◌}
use Rattle.std.specs.FinMap as map
use Rattle.apd_table.proofs.Words.{station_change, station_cmp}
use Rattle.apd_table.proofs.stations.Stations.add_changes.Goals as goal

pub returns : goal.returns
returns c =
    subst (λ rows. OnOk c.add_stations.result (c.add_stations.new.changes ≡ c.args.changes.now ++ list_map station_change rows))
    (sym (map.entries-from_sorted station_cmp c.self.inside.rows.entries c.self.invariant.0) ∙ ap map.entries c.self.view_is) c.add_stations.ensures
