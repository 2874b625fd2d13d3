-- The codes by which a model's value may hold a core's state.
use Rattle.std.specs.Prelude.{ℕ, refl}
use Rattle.std.specs.Coded.{Coded, code_by, coded×, coded_ℕ}
use Rattle.std.specs.FinMap as maps
use Rattle.apd_base.specs.Addr.{coded_addr, coded_bssid}
use Rattle.apd_base.specs.declared.moment.Moment.{Moment}
use Rattle.apd_core.specs.Heard.{LastHeard}

abbrev pub coded_moment : Coded Moment
coded_moment = code_by ℕ coded_ℕ (λ m. m.0) (λ n. record { 0 = n }) (λ _. refl)

abbrev pub coded_last_heard : Coded LastHeard
coded_last_heard = maps.code (coded× coded_bssid coded_addr) coded_moment
