-- A radio's driver as a map from the stations that it was told to take in, to their association identifiers.
use Rattle.std.specs.Prelude.{◌≡◌, ℕ, List, [], ◌∷◌, Option, None, Some, IsSome, if◌then◌else◌}
use Rattle.std.specs.Ordering.{eq_by_cmp}
use Rattle.apd_base.specs.declared.address.Addr.{Addr}
use Rattle.apd_base.specs.declared.address.Bssid.{Bssid}
use Rattle.apd_base.specs.Addr.{addr_cmp}
use Rattle.apd_base.specs.State.{State, aid_at}
use Rattle.apd_conf.specs.declared.conf.Conf.{Conf}
use Rattle.apd_conf.specs.Confs.{conf_at}
use Rattle.apd_mlme.specs.declared.decision.Recipient.{Recipient}
use Rattle.apd_mlme.specs.declared.decision.Recipient.TheVariants.{Radio}
use Rattle.apd_mlme.specs.declared.decision.Out.{Out}
use Rattle.apd_mlme.specs.declared.decision.Out.TheVariants.{Install, Remove, Frame, Text}
use Rattle.apd_mlme.specs.Outs.{outs_to}

-- what a driver has at each address
abbrev pub DriverMap : Type 0
DriverMap = Addr → Option ℕ

-- a driver's map after an out: a frame or a text leaves it as it is
abbrev pub driver_after : Out → DriverMap → DriverMap
driver_after (Install a aid) driver = λ d. if eq_by_cmp addr_cmp a d then Some aid.number else driver d
driver_after (Remove a) driver = λ d. if eq_by_cmp addr_cmp a d then None else driver d
driver_after (Frame bytes) driver = driver
driver_after (Text tag bytes) driver = driver

-- after outs, one after the other
abbrev pub driver_after_all : List Out → DriverMap → DriverMap
driver_after_all [] driver = driver
driver_after_all (out ∷ outs) driver = driver_after_all outs (driver_after out driver)

-- where the driver of a configured BSSID had its associated stations under their identifiers, it has them after the
-- outs to its radio
abbrev pub FollowsDrivers : List Conf → List (Recipient × Out) → State → State → Type 0
FollowsDrivers confs outs old new =
    (b : Bssid) → IsSome (conf_at confs b) → (a : Addr)
    → driver_after_all (outs_to (Radio b) outs) (aid_at old b) a ≡ aid_at new b a
