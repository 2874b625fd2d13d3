-- A station's parts are told apart by their numbers.
use mathlib.Core.HLevel.{Σ_prop_path}
use Rattle.std.specs.Coded.{le_prop, ×_prop}
use Rattle.std.proofs.Common.{◌≡◌, ℕ, ◌≤◌, refl, ap, arith}
use Rattle.apd_base.specs.declared.limits.TheConstants.{MAX_STATIONS}
use Rattle.apd_base.specs.Mode.{mode_number}
use Rattle.apd_base.specs.State.{which_number}
use Rattle.apd_base.specs.declared.station.AclMode.{AclMode}
use Rattle.apd_base.specs.declared.station.AclMode.TheVariants.{AcceptUnlessDenied, DenyUnlessAccepted}
use Rattle.apd_base.specs.declared.station.Aid.{Aid}
use Rattle.apd_base.specs.declared.station.StationNumber.{StationNumber}
use Rattle.apd_base.specs.declared.station.Which.{Which}
use Rattle.apd_base.specs.declared.station.Which.TheVariants.{Accept, Deny}

pub same_aid : (x y : Aid) → x.number ≡ y.number → x ≡ y
same_aid x y e =
    let low = Σ_prop_path {B = λ n. (1 ≤ n) × (n ≤ MAX_STATIONS)} (λ n. ×_prop le_prop le_prop) {u = (x.number, (x.low, x.high))} {v = (y.number, (y.low, y.high))} e in
    ap (λ (p : (n : ℕ) × ((1 ≤ n) × (n ≤ MAX_STATIONS))). record { number = p.0; low = p.1.0; high = p.1.1 }) low

pub same_station_number : (x y : StationNumber) → x.number ≡ y.number → x ≡ y
same_station_number x y e = ap (λ (p : (n : ℕ) × (n ≤ MAX_STATIONS)). record { number = p.0; in_range = p.1 }) (Σ_prop_path {B = λ n. n ≤ MAX_STATIONS} (λ n. le_prop) {u = (x.number, x.in_range)} {v = (y.number, y.in_range)} e)

pub same_mode : (x y : AclMode) → mode_number x ≡ mode_number y → x ≡ y
same_mode AcceptUnlessDenied AcceptUnlessDenied e = refl
same_mode AcceptUnlessDenied DenyUnlessAccepted e = absurd (omega arith)
same_mode DenyUnlessAccepted AcceptUnlessDenied e = absurd (omega arith)
same_mode DenyUnlessAccepted DenyUnlessAccepted e = refl

pub same_which : (x y : Which) → which_number x ≡ which_number y → x ≡ y
same_which Accept Accept e = refl
same_which Accept Deny e = absurd (omega arith)
same_which Deny Accept e = absurd (omega arith)
same_which Deny Deny e = refl
