-- The addresses of the rows of a BSSID: all of them, and those that its policy denies once a list is changed.
use Rattle.std.specs.Prelude.{Bool, not, ◌&&◌, ◌||◌, List, [], map as list_map, filter, Option, Some, None, if◌then◌else◌}
use Rattle.std.specs.Ordering.{eq_by_cmp}
use Rattle.std.specs.FinMap as map
use Rattle.apd_base.specs.declared.address.Addr.{Addr}
use Rattle.apd_base.specs.declared.address.Bssid.{Bssid}
use Rattle.apd_base.specs.declared.station.AclMode.{AclMode}
use Rattle.apd_base.specs.declared.station.Policy.{Policy}
use Rattle.apd_base.specs.declared.station.Station.{Station}
use Rattle.apd_base.specs.declared.station.Which.{Which}
use Rattle.apd_base.specs.declared.station.Which.TheVariants.{Accept, Deny}
use Rattle.apd_base.specs.Addr.{addr_cmp, bssid_cmp}
use Rattle.apd_base.specs.State.{State, which_cmp, policy_at}
use Rattle.apd_acl.specs.Lists.{has}
use Rattle.apd_acl.specs.Policy.{is_allowed}
use Rattle.apd_acl.specs.declared.lists.Lists.{Lists}
use Rattle.apd_record.specs.Meaning.{meaning}
use Rattle.apd_record.specs.declared.change.Change.{Change}
use Rattle.apd_record.specs.declared.change.Change.TheVariants.{ListAdd, ListDel, ListClear, Policy as SetPolicy}
use Rattle.apd_table.specs.Allowed.{denials_by}
use Rattle.apd_table.specs.Rows.{is_station_row_of}

-- the addresses of all its rows, rising
abbrev pub addresses_at : State → Bssid → List Addr
addresses_at s b = list_map (λ row. row.0.1) (filter (is_station_row_of b) (map.entries s.stations))

-- the stations as they are, with the lists that a change leaves
abbrev pub with_lists_after : Change → State → State
with_lists_after change s = record s { lists = (meaning change s).lists }

-- those that a policy denies, rising; without a policy there is none
abbrev pub denials_under : State → Bssid → Option Policy → List Addr
denials_under s b None = []
denials_under s b (Some policy) = denials_by s b policy.mode

-- those that the policy of the BSSID denies by the lists that a change leaves
abbrev pub denials_after : State → Bssid → Change → List Addr
denials_after s b change = denials_under (with_lists_after change s) b (policy_at s b)

-- the address that a change adds to a list or takes out of one
abbrev pub listed_address : Change → Option Addr
listed_address (ListAdd c v d) = Some d
listed_address (ListDel c v d) = Some d
listed_address other = None

-- whether two list rows are one
abbrev pub is_list_row : Bssid → Which → Addr → Bssid → Which → Addr → Bool
is_list_row b w a c v d = eq_by_cmp bssid_cmp b c && (eq_by_cmp which_cmp w v && eq_by_cmp addr_cmp a d)

-- whether the lists of the BSSID have an address once a change is made
abbrev pub has_after : Lists → Bssid → Change → Which → Addr → Bool
has_after lists b (ListAdd c v d) w a = is_list_row b w a c v d || has lists w a
has_after lists b (ListDel c v d) w a = not (is_list_row b w a c v d) && has lists w a
has_after lists b (ListClear c v) w a = not (eq_by_cmp bssid_cmp c b && eq_by_cmp which_cmp v w) && has lists w a
has_after lists b other w a = has lists w a

-- the policy of the BSSID once a change is made
abbrev pub policy_after : Policy → Bssid → Change → Policy
policy_after policy b (SetPolicy c new) = if eq_by_cmp bssid_cmp b c then new else policy
policy_after policy b other = policy

-- whether a mode denies an address of the BSSID by the lists that a change leaves, and whether a row is one of those
abbrev pub is_address_denied_after : Lists → AclMode → Bssid → Change → Addr → Bool
is_address_denied_after lists mode b change a =
    not (is_allowed mode (has_after lists b change Accept a) (has_after lists b change Deny a))

abbrev pub is_denied_after : Lists → AclMode → Bssid → Change → (Bssid × Addr) × Station → Bool
is_denied_after lists mode b change row = is_station_row_of b row && is_address_denied_after lists mode b change row.0.1
