-- The codes by which a model's value may hold the parts of a state: each is the tuple of its data.
use Rattle.std.specs.Prelude.{◌≡◌, ◌≤◌, ℕ, zero, suc, Option, Some, None, refl}
use Rattle.std.specs.FinMap as map
use Rattle.std.specs.FinMap.{FinMap}
use Rattle.apd_base.specs.Sets.{SetOf, coded_set}
use Rattle.std.specs.Coded.{Coded, code_by, coded×, coded_ℕ, coded_option, ×_prop, le_prop}
use base.Stored.{coded_sub}
use Rattle.apd_base.specs.declared.address.Addr.{Addr}
use Rattle.apd_base.specs.declared.address.Bssid.{Bssid}
use Rattle.apd_base.specs.declared.station.Station.{Station}
use Rattle.apd_base.specs.declared.station.Station.TheVariants.{Authenticated, Associated}
use Rattle.apd_base.specs.declared.station.Association.{Association}
use Rattle.apd_base.specs.declared.station.Aid.{Aid}
use Rattle.apd_base.specs.declared.station.Which.{Which}
use Rattle.apd_base.specs.declared.station.Which.TheVariants.{Accept, Deny}
use Rattle.apd_base.specs.declared.station.AclMode.{AclMode}
use Rattle.apd_base.specs.declared.station.AclMode.TheVariants.{AcceptUnlessDenied, DenyUnlessAccepted}
use Rattle.apd_base.specs.declared.station.StationNumber.{StationNumber}
use Rattle.apd_base.specs.declared.station.Policy.{Policy}
use Rattle.apd_base.specs.Addr.{bssid_cmp, station_cmp, coded_addr, coded_bssid}
use Rattle.apd_base.specs.declared.limits.TheConstants.{MAX_STATIONS}
use Rattle.apd_base.specs.Mode.{mode_number}
use Rattle.apd_base.specs.State.{State, which_number, list_cmp}

abbrev pub coded_aid : Coded Aid
coded_aid =
    code_by ((n : ℕ)
    × ((1 ≤ n) × (n ≤ MAX_STATIONS)))
    (coded_sub coded_ℕ (λ n. (1 ≤ n) × (n ≤ MAX_STATIONS)) (λ n. ×_prop le_prop le_prop))
    (λ aid. (aid.number, (aid.low, aid.high))) (λ p. record { number = p.0; low = p.1.0; high = p.1.1 }) (λ _. refl)

abbrev pub coded_association : Coded Association
coded_association =
    code_by (Aid × (ℕ × ℕ)) (coded× coded_aid (coded× coded_ℕ coded_ℕ))
    (λ a. (a.aid, (a.capability, a.listen_interval)))
    (λ p. record { aid = p.0; capability = p.1.0; listen_interval = p.1.1 }) (λ _. refl)

abbrev pub association_of : Station → Option Association
association_of Authenticated = None
association_of (Associated association) = Some association

abbrev pub station_from : Option Association → Station
station_from None = Authenticated
station_from (Some association) = Associated association

pub station_from-association_of : (x : Station) → station_from (association_of x) ≡ x
station_from-association_of Authenticated = refl
station_from-association_of (Associated association) = refl

abbrev pub coded_station : Coded Station
coded_station =
    code_by (Option Association)
    (coded_option coded_association) association_of station_from station_from-association_of

abbrev pub mode_from : ℕ → AclMode
mode_from zero = AcceptUnlessDenied
mode_from (suc n) = DenyUnlessAccepted

pub mode_from-mode_number : (m : AclMode) → mode_from (mode_number m) ≡ m
mode_from-mode_number AcceptUnlessDenied = refl
mode_from-mode_number DenyUnlessAccepted = refl

abbrev pub coded_mode : Coded AclMode
coded_mode = code_by ℕ coded_ℕ mode_number mode_from mode_from-mode_number

abbrev pub coded_station_number : Coded StationNumber
coded_station_number =
    code_by ((n : ℕ) × (n ≤ MAX_STATIONS)) (coded_sub coded_ℕ (λ n. n ≤ MAX_STATIONS) (λ n. le_prop))
    (λ x. (x.number, x.in_range)) (λ p. record { number = p.0; in_range = p.1 }) (λ _. refl)

abbrev pub coded_policy : Coded Policy
coded_policy =
    code_by (AclMode × StationNumber) (coded× coded_mode coded_station_number) (λ p. (p.mode, p.max))
    (λ p. record { mode = p.0; max = p.1 }) (λ _. refl)

abbrev pub which_from : ℕ → Which
which_from zero = Accept
which_from (suc n) = Deny

pub which_from-which_number : (w : Which) → which_from (which_number w) ≡ w
which_from-which_number Accept = refl
which_from-which_number Deny = refl

abbrev pub coded_which : Coded Which
coded_which = code_by ℕ coded_ℕ which_number which_from which_from-which_number

abbrev pub coded_list_row : Coded (Bssid × Which × Addr)
coded_list_row =
    code_by (Bssid × (Which × Addr)) (coded× coded_bssid (coded× coded_which coded_addr)) (λ k. (k.0, (k.1, k.2)))
    (λ p. (p.0, p.1.0, p.1.1)) (λ _. refl)

abbrev pub coded_state : Coded State
coded_state =
    code_by (FinMap station_cmp Station × (SetOf list_cmp × (FinMap bssid_cmp Policy × FinMap bssid_cmp StationNumber)))
    (coded× (map.code (coded× coded_bssid coded_addr) coded_station)
    (coded× (coded_set coded_list_row)
    (coded× (map.code coded_bssid coded_policy) (map.code coded_bssid coded_station_number))))
    (λ s. (s.stations, (s.lists, (s.policies, s.cursors))))
    (λ p. record { stations = p.0; lists = p.1.0; policies = p.1.1.0; cursors = p.1.1.1 })
    (λ _. refl)
