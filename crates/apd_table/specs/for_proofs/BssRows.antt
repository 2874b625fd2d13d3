-- The rows of BSSIDs as list rows and policy rows, and what a write makes of one.
use Rattle.std.specs.Prelude.{Bool, false, List, [], ◌∷◌, Option, Some, None, map as list_map}
use Rattle.std.specs.FinMap as map
use Rattle.std.specs.FinMap.{FinMap}
use Rattle.apd_base.specs.declared.address.Addr.{Addr}
use Rattle.apd_base.specs.declared.address.Bssid.{Bssid}
use Rattle.apd_base.specs.declared.station.Which.{Which}
use Rattle.apd_base.specs.declared.station.Which.TheVariants.{Accept, Deny}
use Rattle.apd_base.specs.declared.station.Policy.{Policy}
use Rattle.apd_base.specs.declared.station.StationNumber.{StationNumber}
use Rattle.apd_record.specs.Meaning.{cursors_with}
use Rattle.apd_base.specs.Sets.{SetOf}
use Rattle.apd_base.specs.declared.station.Station.{Station}
use Rattle.apd_base.specs.Addr.{bssid_cmp}
use Rattle.apd_base.specs.State.{list_cmp}
use Rattle.apd_acl.specs.Lists.{list_of, has, with_address, without_address, without_addresses}
use Rattle.apd_table.specs.for_proofs.BssState.{BssState}
use Rattle.apd_table.specs.for_proofs.Members.{members_after, no_members}
use Rattle.apd_table.specs.declared.bss_rows.Bss.{Bss}
use Rattle.apd_table.specs.declared.members.Members.{Members}

-- the rows of one list beside others
abbrev pub add_rows : Bssid → Which → List Addr → SetOf list_cmp → SetOf list_cmp
add_rows b w [] s = s
add_rows b w (a ∷ as') s = map.insert (add_rows b w as' s) (b, w, a) tt

-- all list rows
abbrev pub list_rows : List (Bssid × Bss) → SetOf list_cmp
list_rows [] = map.empty
list_rows (x ∷ xs) =
    add_rows x.0 Accept (map.keys (list_of x.1.lists Accept))
    (add_rows x.0 Deny (map.keys (list_of x.1.lists Deny)) (list_rows xs))

abbrev pub policy_of : Bss → Policy
policy_of x = x.policy

abbrev pub cursor_of : Bss → StationNumber
cursor_of x = x.cursor

abbrev pub members_of : Bss → Members
members_of x = x.members

-- one part of each row
abbrev pub parts_of : {V : Type 0} → (Bss → V) → List (Bssid × Bss) → List (Bssid × V)
parts_of part xs = list_map (λ x. (x.0, part x.1)) xs

abbrev pub policy_rows : List (Bssid × Bss) → List (Bssid × Policy)
policy_rows xs = parts_of policy_of xs

abbrev pub state_of_rows : List (Bssid × Bss) → BssState
state_of_rows xs =
    record {
      lists = list_rows xs;
      policies = map.from_sorted (policy_rows xs);
      cursors = map.from_sorted (parts_of cursor_of xs);
      members = map.from_sorted (parts_of members_of xs);
    }

abbrev pub no_bss : BssState
no_bss = record { lists = map.empty; policies = map.empty; cursors = map.empty; members = map.empty }

-- a BSSID that had no policy comes without stations
abbrev pub members_under : Option Policy → FinMap bssid_cmp Members → Bssid → FinMap bssid_cmp Members
members_under None members b = map.insert members b no_members
members_under (Some policy) members b = members

abbrev pub with_bss : BssState → Bssid → Policy → BssState
with_bss s b policy =
    record s {
      policies = map.insert s.policies b policy;
      cursors = cursors_with (map.get s.policies b) s.cursors b;
      members = members_under (map.get s.policies b) s.members b;
    }

-- whether the lists of a row have an address
abbrev pub is_listed_in : Option Bss → Which → Addr → Bool
is_listed_in None w a = false
is_listed_in (Some x) w a = has x.lists w a

-- what is written into a row
abbrev pub with_policy : Policy → Bss → Bss
with_policy policy x = record x { policy = policy }

abbrev pub with_cursor : StationNumber → Bss → Bss
with_cursor last x = record x { cursor = last }

abbrev pub with_added : Which → Addr → Bss → Bss
with_added w a x = record x { lists = with_address x.lists w a }

abbrev pub with_removed : Which → Addr → Bss → Bss
with_removed w a x = record x { lists = without_address x.lists w a }

abbrev pub with_cleared : Which → Bss → Bss
with_cleared w x = record x { lists = without_addresses x.lists w }

abbrev pub with_row : Option Station → Option Station → Bss → Bss
with_row old new x = record x { members = members_after old new x.members }

abbrev pub at_row : (Bss → Bss) → Bssid × Bss → Bssid × Bss
at_row write row = (row.0, write row.1)
