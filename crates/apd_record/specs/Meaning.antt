-- What changes mean, as rows put in place of others or taken out.
use Rattle.std.specs.Prelude.{not, List, [], ◌∷◌, Option, None, Some}
use Rattle.std.proofs.Common.{lit≤}
use Rattle.std.specs.FinMap as map
use Rattle.std.specs.FinMap.{FinMap}
use Rattle.apd_base.specs.State.{State, is_list_row_of, policy_at}
use Rattle.apd_base.specs.declared.address.Addr.{Addr}
use Rattle.apd_base.specs.declared.address.Bssid.{Bssid}
use Rattle.apd_base.specs.declared.station.Station.{Station}
use Rattle.apd_base.specs.declared.station.StationNumber.{StationNumber}
use Rattle.apd_base.specs.Addr.{bssid_cmp}
use Rattle.apd_base.specs.declared.station.Which.{Which}
use Rattle.apd_base.specs.declared.station.Policy.{Policy as BssPolicy}
use Rattle.apd_record.specs.declared.change.Change.{Change}
use Rattle.apd_record.specs.declared.change.Change.TheVariants.{Put, Drop, ListAdd, ListDel, ListClear, Policy, Cursor}

abbrev pub put_station : Bssid → Addr → Station → State → State
put_station b a station s = record s { stations = map.insert s.stations (b, a) station }

abbrev pub drop_station : Bssid → Addr → State → State
drop_station b a s = record s { stations = map.remove s.stations (b, a) }

abbrev pub add_to_list : Bssid → Which → Addr → State → State
add_to_list b w a s = record s { lists = map.insert s.lists (b, w, a) tt }

abbrev pub take_from_list : Bssid → Which → Addr → State → State
take_from_list b w a s = record s { lists = map.remove s.lists (b, w, a) }

abbrev pub clear_list : Bssid → Which → State → State
clear_list b w s = record s { lists = map.retain_keys s.lists (λ row. not (is_list_row_of b w row)) }

-- no identifier was given yet
abbrev pub none_given : StationNumber
none_given = record { number = 0; in_range = lit≤ tt }

-- a BSSID's first policy sets its cursor to 0, a later one leaves it
abbrev pub cursors_with : Option BssPolicy → FinMap bssid_cmp StationNumber → Bssid → FinMap bssid_cmp StationNumber
cursors_with None cursors b = map.insert cursors b none_given
cursors_with (Some policy) cursors b = cursors

abbrev pub set_policy : Bssid → BssPolicy → State → State
set_policy b policy s =
    record s { policies = map.insert s.policies b policy; cursors = cursors_with (policy_at s b) s.cursors b }

abbrev pub set_cursor : Bssid → StationNumber → State → State
set_cursor b last s = record s { cursors = map.insert s.cursors b last }

-- the state after a change
abbrev pub meaning : Change → State → State
meaning (Put b a station) s = put_station b a station s
meaning (Drop b a) s = drop_station b a s
meaning (ListAdd b w a) s = add_to_list b w a s
meaning (ListDel b w a) s = take_from_list b w a s
meaning (ListClear b w) s = clear_list b w s
meaning (Policy b policy) s = set_policy b policy s
meaning (Cursor b last) s = set_cursor b last s

-- the state after changes, one after another
abbrev pub meaning_of : List Change → State → State
meaning_of [] s = s
meaning_of (change ∷ changes) s = meaning_of changes (meaning change s)
