-- The changes that lead from the empty state to a state, in one order (own).
use Rattle.std.specs.Prelude.{Bool, List, ◌++◌, ◌==◌, not, filter, map as list_map}
use Rattle.std.specs.List.{flat_map}
use Rattle.std.specs.FinMap as map
use Rattle.std.specs.FinMap.{FinMap}
use Rattle.apd_base.specs.declared.address.Addr.{Addr}
use Rattle.apd_base.specs.declared.address.Bssid.{Bssid}
use Rattle.apd_base.specs.declared.station.Policy.{Policy}
use Rattle.apd_base.specs.declared.station.Station.{Station}
use Rattle.apd_base.specs.declared.station.StationNumber.{StationNumber}
use Rattle.apd_base.specs.declared.station.Which.{Which}
use Rattle.apd_base.specs.declared.station.Which.TheVariants.{Accept, Deny}
use Rattle.apd_base.specs.Addr.{addr_cmp, bssid_cmp, station_cmp}
use Rattle.apd_base.specs.Sets.{SetOf}
use Rattle.apd_base.specs.State.{State, list_cmp}
use Rattle.apd_acl.specs.Lists.{list_of}
use Rattle.apd_record.specs.declared.change.Change.{Change}
use Rattle.apd_record.specs.declared.change.Change.TheVariants.{Put, ListAdd, Policy as SetPolicy, Cursor}
use Rattle.apd_table.specs.declared.bss_rows.Bss.{Bss}

-- the change that makes a row
abbrev pub policy_change : Bssid × Policy → Change
policy_change row = SetPolicy row.0 row.1

abbrev pub cursor_change : Bssid × StationNumber → Change
cursor_change row = Cursor row.0 row.1

abbrev pub list_change : (Bssid × Which × Addr) × Unit {0} → Change
list_change row = ListAdd row.0.0 row.0.1 row.0.2

abbrev pub station_change : (Bssid × Addr) × Station → Change
station_change row = Put row.0.0 row.0.1 row.1

-- those of all rows, in the order of their keys
abbrev pub policy_changes : FinMap bssid_cmp Policy → List Change
policy_changes policies = list_map policy_change (map.entries policies)

-- whether an identifier was given
abbrev pub is_given : StationNumber → Bool
is_given last = not (last.number == 0)

-- but those where none was
abbrev pub cursor_changes : FinMap bssid_cmp StationNumber → List Change
cursor_changes cursors = list_map cursor_change (filter (λ row. is_given row.1) (map.entries cursors))

abbrev pub list_changes : SetOf list_cmp → List Change
list_changes lists = list_map list_change (map.entries lists)

abbrev pub station_changes : FinMap station_cmp Station → List Change
station_changes stations = list_map station_change (map.entries stations)

-- each policy by BSSID; each identifier given last, where one was, by BSSID; each list row by BSSID, list and address; each station row
-- by BSSID and address
abbrev pub canonical : State → List Change
canonical s =
    policy_changes s.policies ++ (cursor_changes s.cursors ++ (list_changes s.lists ++ station_changes s.stations))

-- ---- the same of rows of BSSIDs

-- one list of a BSSID
abbrev pub changes_of_list : Bssid → Which → SetOf addr_cmp → List Change
changes_of_list b w list = list_map (λ a. ListAdd b w a) (map.keys list)

-- both lists of a row
abbrev pub changes_of_lists : Bssid × Bss → List Change
changes_of_lists row =
    changes_of_list row.0 Accept (list_of row.1.lists Accept) ++ changes_of_list row.0 Deny (list_of row.1.lists Deny)

-- the policies of all rows, then what was given last, and then their lists
abbrev pub policies_of_rows : List (Bssid × Bss) → List Change
policies_of_rows rows = list_map (λ (row : Bssid × Bss). SetPolicy row.0 row.1.policy) rows

abbrev pub cursors_of_rows : List (Bssid × Bss) → List Change
cursors_of_rows rows =
    list_map (λ (row : Bssid × Bss). Cursor row.0 row.1.cursor)
    (filter (λ (row : Bssid × Bss). is_given row.1.cursor) rows)

abbrev pub lists_of_rows : List (Bssid × Bss) → List Change
lists_of_rows rows = flat_map changes_of_lists rows
