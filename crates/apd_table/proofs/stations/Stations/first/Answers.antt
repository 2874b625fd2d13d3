use Rattle.std.proofs.Common.{◌≡◌, Some, None, IsSome, IfSome, IfNone, ap, subst, ◌∙◌}
use Rattle.std.specs.FinMap as map
use Rattle.apd_table.proofs.Words.{Addr, FinMap, IsLeast, Station, address_and_station, from_sorted-entries, option_map, slice_get, station_cmp, station_exact, station_total}
use Rattle.apd_table.proofs.Firsts.{first_of, first_is_least, first_is_row, first_is_none}
use Rattle.apd_table.proofs.StationRows.{front_is}
use Rattle.apd_table.proofs.stations.Stations.first.Goals as goal

told : (c : goal.After-address_and_station) → c.address_and_station.result ≡ first_of c.args.bssid (map.entries c.args.self.now)
told c = c.address_and_station.ensures ∙ ap (option_map address_and_station) (front_is c.of.result c.next.new.self c.next.result c.next.ensures.steps ∙ ap (λ rows. slice_get rows 0) c.of.ensures.rows)

pub returns-clause-least : goal.returns-clause-least
returns-clause-least c =
    let m = c.args.self.now in
    subst (λ (x : FinMap station_cmp Station). IfSome c.address_and_station.result (λ t. IsLeast (λ a. IsSome (map.get x (c.args.bssid, a))) t.0)) (from_sorted-entries station_total station_exact m)
    (first_is_least c.args.bssid (map.entries m) (map.entries_sorted m) c.address_and_station.result (told c))

pub returns-clause-row : goal.returns-clause-row
returns-clause-row c =
    let m = c.args.self.now in
    subst (λ (x : FinMap station_cmp Station). IfSome c.address_and_station.result (λ t. map.get x (c.args.bssid, t.0) ≡ Some t.1)) (from_sorted-entries station_total station_exact m)
    (first_is_row c.args.bssid (map.entries m) (map.entries_sorted m) c.address_and_station.result (told c))

pub returns-clause-none : goal.returns-clause-none
returns-clause-none c =
    let m = c.args.self.now in
    subst (λ (x : FinMap station_cmp Station). IfNone c.address_and_station.result ((a : Addr) → map.get x (c.args.bssid, a) ≡ None)) (from_sorted-entries station_total station_exact m)
    (first_is_none c.args.bssid (map.entries m) (map.entries_sorted m) c.address_and_station.result (told c))
