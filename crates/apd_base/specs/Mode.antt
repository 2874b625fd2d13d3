-- The number of a mode, as files and records have it.
use Rattle.std.specs.Prelude.{ℕ}
use Rattle.apd_base.specs.declared.station.AclMode.{AclMode}
use Rattle.apd_base.specs.declared.station.AclMode.TheVariants.{AcceptUnlessDenied, DenyUnlessAccepted}

abbrev pub mode_number : AclMode → ℕ
mode_number AcceptUnlessDenied = 0
mode_number DenyUnlessAccepted = 1
