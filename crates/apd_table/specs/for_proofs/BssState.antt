-- The part of a state that does not speak of stations, and what is kept of them at each BSSID.
use Rattle.std.specs.Prelude.{refl}
use Rattle.std.specs.FinMap as map
use Rattle.std.specs.FinMap.{FinMap}
use Rattle.std.specs.Coded.{Coded, code_by, coded×}
use Rattle.apd_base.specs.Sets.{SetOf, coded_set}
use Rattle.apd_base.specs.Addr.{bssid_cmp, coded_bssid}
use Rattle.apd_base.specs.for_proofs.Codes.{coded_list_row, coded_policy, coded_station_number}
use Rattle.apd_base.specs.State.{list_cmp}
use Rattle.apd_base.specs.declared.station.Policy.{Policy}
use Rattle.apd_base.specs.declared.station.StationNumber.{StationNumber}
use Rattle.apd_table.specs.for_proofs.Members.{coded_members}
use Rattle.apd_table.specs.declared.members.Members.{Members}

pub record BssState : Type 0 where
  pub lists : SetOf list_cmp
  pub policies : FinMap bssid_cmp Policy
  pub cursors : FinMap bssid_cmp StationNumber
  pub members : FinMap bssid_cmp Members

abbrev pub coded_bss_state : Coded BssState
coded_bss_state =
    code_by (SetOf list_cmp × (FinMap bssid_cmp Policy × (FinMap bssid_cmp StationNumber × FinMap bssid_cmp Members)))
    (coded× (coded_set coded_list_row)
    (coded× (map.code coded_bssid coded_policy)
    (coded× (map.code coded_bssid coded_station_number) (map.code coded_bssid coded_members))))
    (λ s. (s.lists, (s.policies, (s.cursors, s.members))))
    (λ p. record { lists = p.0; policies = p.1.0; cursors = p.1.1.0; members = p.1.1.1 })
    (λ _. refl)
