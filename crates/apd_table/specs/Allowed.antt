-- Which stations the policy of a BSSID allows.
use Rattle.std.specs.Prelude.{ℕ, Bool, not, ◌&&◌, List, map as list_map, filter, Option, Some, None}
use Rattle.std.specs.Ordering.{eq_by_cmp}
use Rattle.std.specs.FinMap as map
use Rattle.apd_base.specs.Sets as set
use Rattle.apd_base.specs.declared.address.Addr.{Addr}
use Rattle.apd_base.specs.declared.address.Bssid.{Bssid}
use Rattle.apd_base.specs.declared.station.Station.{Station}
use Rattle.apd_base.specs.declared.station.AclMode.{AclMode}
use Rattle.apd_base.specs.declared.station.Policy.{Policy}
use Rattle.apd_base.specs.declared.station.Which.TheVariants.{Accept, Deny}
use Rattle.apd_base.specs.Addr.{bssid_cmp}
use Rattle.apd_base.specs.Mode.{mode_number}
use Rattle.apd_base.specs.State.{State, policy_at}
use Rattle.apd_acl.specs.Policy.{is_allowed}

-- in this mode, by the lists of the BSSID
abbrev pub is_allowed_in : State → Bssid → Addr → AclMode → Bool
is_allowed_in s b a mode = is_allowed mode (set.contains s.lists (b, Accept, a)) (set.contains s.lists (b, Deny, a))

-- under a policy, one that is on the accept list or not, and on the deny list or not; where there is no policy there is no
-- mode, and the accept list alone counts
abbrev pub is_allowed_by : Option Policy → Bool → Bool → Bool
is_allowed_by None accepted denied = accepted
is_allowed_by (Some policy) accepted denied = is_allowed policy.mode accepted denied

abbrev pub is_allowed_under : State → Bssid → Addr → Option Policy → Bool
is_allowed_under s b a policy = is_allowed_by policy (set.contains s.lists (b, Accept, a)) (set.contains s.lists (b, Deny, a))

-- under the policy of the BSSID
abbrev pub allowed : State → Bssid → Addr → Bool
allowed s b a = is_allowed_under s b a (policy_at s b)

-- whether a row is one of the BSSID that this mode would deny
abbrev pub is_denied_row : State → Bssid → AclMode → (Bssid × Addr) × Station → Bool
is_denied_row s b mode row = eq_by_cmp bssid_cmp b row.0.0 && not (is_allowed_in s b row.0.1 mode)

-- the addresses of those rows, rising
abbrev pub denials_by : State → Bssid → AclMode → List Addr
denials_by s b mode = list_map (λ row. row.0.1) (filter (is_denied_row s b mode) (map.entries s.stations))

-- the number of a policy's mode and its greatest number of stations
abbrev pub mode_and_max : Policy → ℕ × ℕ
mode_and_max policy = (mode_number policy.mode, policy.max.number)
