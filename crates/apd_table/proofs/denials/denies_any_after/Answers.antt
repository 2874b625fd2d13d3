use Rattle.std.proofs.Common.{refl, ap, ◌∙◌, rules, tests}
use Rattle.std.proofs.lemmas.Iterator.Consumers.{YieldsList-from_rest}
use Rattle.std.proofs.lemmas.Iterator.Search.{any_from_yields_List}
use Rattle.std.specs.FinMap as map
use Rattle.apd_table.proofs.Words.{is_address_denied_after, list_any}
use Rattle.apd_table.specs.Rows.{is_station_row_of}
use Rattle.apd_table.proofs.StationRows.{Row, any_filtered}
use Rattle.apd_table.proofs.denials.denies_any_after.Goals as goal

pub returns : goal.returns
returns c =
    let test = λ (row : Row). is_address_denied_after c.args.lists.now c.args.mode c.args.bssid c.args.change.now row.0.1 in
    any_from_yields_List test _ _ c.any.result c.any.ensures.ran (YieldsList-from_rest c.of-rows.result refl) (λ x b q k. search (rules, tests))
    ∙ ap (list_any test) c.of-rows.ensures.rows ∙ any_filtered (is_station_row_of c.args.bssid) test (map.entries c.args.stations.now)
