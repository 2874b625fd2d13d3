use Rattle.std.proofs.Common.{◌≡◌, ◌==◌, Bool, not, ◌&&◌, ◌||◌, List, [], ◌∷◌, map as list_map, refl, sym, ap, ◌∙◌, rules, tests}
use Rattle.std.proofs.lemmas.Iterator.{YieldsList-from_slice}
use Rattle.std.proofs.lemmas.Iterator.Search.{any_from_yields_List}
use Rattle.std.specs.FinMap as map
use Rattle.apd_table.proofs.Words.{Bss, Bssid, Members, State, is_associated_apart, list_any, members_of, parts_of, state_of, station_at}
use Rattle.apd_table.proofs.Clashes.{any_with_stations}
use Rattle.apd_table.proofs.table.Table.is_elsewhere.Goals as goal

any_key : (test : Bssid → Bool) (rows : List (Bssid × Bss)) → list_any (λ e. test e.0) (parts_of members_of rows) ≡ list_any test (list_map (λ (row : Bssid × Bss). row.0) rows)
any_key test [] = refl
any_key test (row ∷ rows) = ap (λ t. test row.0 || t) (any_key test rows)

any_part : (test : Bssid × Members → Bool) (rows : List (Bssid × Bss)) → list_any (λ row. test (row.0, row.1.members)) rows ≡ list_any test (parts_of members_of rows)
any_part test [] = refl
any_part test (row ∷ rows) = ap (λ t. test (row.0, row.1.members) || t) (any_part test rows)

pub returns : goal.returns
returns c =
    let a = c.args.addr in
    let b = c.args.bssid in
    let rows = c.rows-rows.result.now in
    let m = c.self.inside.bss.members in
    let test = λ (s : State) (other : Bssid). is_associated_apart b other (station_at s other a) in
    let counted = λ (s : State) (e : Bssid × Members). not (e.1.count == 0) && test s e.0 in
    let s = state_of c.self.inside in
    let looked = any_from_yields_List (λ row. counted c.args.self.now (row.0, row.1.members)) _ _ c.any.result c.any.ensures.ran (YieldsList-from_slice rows c.iter.ensures.rest) (λ x b q k. search (rules, tests)) in
    looked ∙ ap (λ t. list_any (λ row. counted t (row.0, row.1.members)) rows) (sym c.self.view_is)
    ∙ any_part (counted s) rows ∙ ap (list_any (counted s)) c.rows-rows.ensures.members ∙ any_with_stations s b a m c.self.invariant.members
    ∙ ap (list_any (λ e. test s e.0)) (sym c.rows-rows.ensures.members) ∙ any_key (test s) rows
    ∙ ap (list_any (test s)) c.rows-rows.ensures.keys ∙ ap (λ t. list_any (test t) (map.keys t.policies)) c.self.view_is
