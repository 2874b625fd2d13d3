use Rattle.std.proofs.Common.{◌≡◌, IfOk, List, filter, map as list_map, ap, subst, refl, ◌∙◌, rules, tests}
use Rattle.std.proofs.lemmas.Iterator.{YieldsList-from_map, items_from_collect}
use Rattle.std.proofs.lemmas.Iterator.Consumers.{YieldsList-from_filter, YieldsList-from_rest, YieldsList-at}
use Rattle.std.specs.FinMap as map
use Rattle.apd_table.proofs.Words.{Addr, is_address_denied_after}
use Rattle.apd_table.specs.Rows.{is_station_row_of}
use Rattle.apd_table.proofs.StationRows.{Row, filter_filtered}
use Rattle.apd_table.proofs.denials.denials_after.Goals as goal

pub returns : goal.returns
returns c =
    let test = λ (row : Row). is_address_denied_after c.args.lists.now c.args.mode c.args.bssid c.args.change.now row.0.1 in
    let address = λ (row : Row). row.0.1 in
    let told = items_from_collect c.collect.result c.collect.ensures.ran
    (YieldsList-from_map _ address (YieldsList-at c.map.ensures.source
    (YieldsList-from_filter _ test (YieldsList-at c.filter.ensures.source (YieldsList-from_rest c.of-rows.result refl)) c.filter.ensures.closure (λ x r q k. search (rules, tests))))
    c.map.ensures.closure (λ x r q k. search (rules, tests))) in
    subst (λ (items : List Addr). IfOk c.collect.result (λ v. v.items ≡ items))
    (ap (λ rows. list_map address (filter test rows)) c.of-rows.ensures.rows ∙ ap (list_map address) (filter_filtered (is_station_row_of c.args.bssid) test (map.entries c.args.stations.now))) told
