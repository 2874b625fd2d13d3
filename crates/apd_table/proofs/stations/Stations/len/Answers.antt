use Rattle.std.proofs.Common.{length, sym, ap, ◌∙◌}
use Rattle.std.specs.FinMap as map
use Rattle.apd_base.specs.Addr.{station_cmp}
use Rattle.apd_table.proofs.stations.Stations.len.Goals as goal

pub returns : goal.returns
returns c = c.len.ensures.len ∙ sym (map.len-entries _ ∙ ap length (map.entries-from_sorted station_cmp c.self.inside.rows.entries c.self.invariant.0)) ∙ ap map.len c.self.view_is
