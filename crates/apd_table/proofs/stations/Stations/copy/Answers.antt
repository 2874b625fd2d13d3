use Rattle.std.proofs.Common.{◌≡◌, List, [], ◌∷◌, IfOk, map as list_map, refl, sym, ap, subst, ◌∙◌, rules, tests}
use Rattle.std.proofs.lemmas.Iterator.Adapters.{fact_from_collect}
use Rattle.std.proofs.lemmas.Iterator.{YieldsList-from_map}
use Rattle.std.proofs.lemmas.Iterator.Consumers.{YieldsList-at, YieldsList-from_rest}
use Rattle.std.specs.FinMap as map
use Rattle.apd_table.proofs.Words.{IsFromIterResult, station_cmp}
use Rattle.apd_table.specs.Rows.{AreRows}
use Rattle.apd_table.proofs.StationRows.{Row, same_rows}
use Rattle.apd_table.proofs.stations.Stations.copy.Goals as goal

same_pairs : (rows : List Row) → list_map (λ (row : Row). (row.0, row.1)) rows ≡ rows
same_pairs [] = refl
same_pairs (row ∷ rows) = ap (λ rs. row ∷ rs) (same_pairs rows)

same : (c : goal.In_ok-collect) → c.in_ok-collect.field-0.entries ≡ c.self.inside.rows.entries
same c =
    let rows = c.self.inside.rows.entries in
    let made = fact_from_collect (IsFromIterResult station_cmp) c.collect.result c.collect.ensures.ran
    (YieldsList-from_map _ (λ (row : Row). (row.0, row.1)) (YieldsList-at c.map-rows.ensures.source (YieldsList-from_rest rows c.iter.ensures.rest)) c.map-rows.ensures.closure (λ x r q k. search (rules, tests))) in
    let copied = subst (λ r. IfOk r (IsFromIterResult station_cmp rows)) c.in_ok-collect.was (subst (λ es. IfOk c.collect.result (IsFromIterResult station_cmp es)) (same_pairs rows) made) in
    same_rows c.self.inside.rows c.self.invariant.0 c.in_ok-collect.field-0 copied

pub invariant_of-result : goal.invariant_of-result
invariant_of-result c = subst AreRows (sym (same c)) c.self.invariant

pub returns : goal.returns
returns c = ap map.from_sorted (same c) ∙ c.self.view_is
