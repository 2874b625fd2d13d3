-- Whose request a ticket is of (own).
use Rattle.std.specs.Prelude.{◌≡◌}
use Rattle.apd_base.specs.declared.moment.Moment.{Moment}
use Rattle.apd_core.specs.declared.input.Input.{Input}
use Rattle.apd_core.specs.declared.ticket.Accepted.{Accepted}
use Rattle.apd_core.specs.declared.ticket.Accepted.TheVariants.{Stopped, Busy, Quiet, Entry}

-- a ticket, where the answer is one, holds this request and this moment
abbrev pub IsOwn : Input → Moment → Accepted → Type 0
IsOwn i m Stopped = Unit {0}
IsOwn i m Busy = Unit {0}
IsOwn i m (Quiet reason) = Unit {0}
IsOwn i m (Entry ticket) = (ticket.input ≡ i) × (ticket.moment ≡ m)
