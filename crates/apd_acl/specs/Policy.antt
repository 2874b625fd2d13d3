-- Which stations a BSSID allows.
use Rattle.std.specs.Prelude.{Bool, not, ◌||◌}
use Rattle.apd_base.specs.declared.station.AclMode.{AclMode}
use Rattle.apd_base.specs.declared.station.AclMode.TheVariants.{AcceptUnlessDenied, DenyUnlessAccepted}

-- in this mode, one that is on the accept list or not, and on the deny list or not
abbrev pub is_allowed : AclMode → Bool → Bool → Bool
is_allowed AcceptUnlessDenied accepted denied = accepted || not denied
is_allowed DenyUnlessAccepted accepted denied = accepted
