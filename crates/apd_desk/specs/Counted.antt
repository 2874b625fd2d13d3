-- Counting entries (own).
use Rattle.std.specs.Prelude.{ℕ, List, sum_by}
use Rattle.apd_core.specs.declared.ticket.Accepted.{Accepted}
use Rattle.apd_core.specs.declared.ticket.Accepted.TheVariants.{Stopped, Busy, Quiet, Entry}
use Rattle.apd_desk.specs.declared.seat.Seat.{Seat}

-- the entries that an answer made
abbrev pub entries_in : Accepted → ℕ
entries_in Stopped = 0
entries_in Busy = 0
entries_in (Quiet reason) = 0
entries_in (Entry ticket) = 1

-- the entries of some seats: the sum of their counts
abbrev pub entries_of_seats : {L : Type 0} → List (Seat L) → ℕ
entries_of_seats seats = sum_by (λ seat. seat.count) seats
