-- The entries that workers accepted (own).
use Rattle.std.specs.Prelude.{ℕ, List, Option, Some, None, sum_by}
use Rattle.apd_desk.specs.declared.seat.Seat.{Seat}
use Rattle.apd_serve.specs.declared.worker.Worker.{Worker}
use Rattle.apd_serve.specs.declared.worker.Worker.TheVariants.{Committing, Radio, Control, Ticks}

-- the entries of a worker: those that its seat counts; the one that commits has no seat
abbrev pub entries_of : {L D R P : Type 0} → Worker L D R P → ℕ
entries_of (Committing committer) = 0
entries_of (Radio seat slot) = seat.count
entries_of (Control seat port) = seat.count
entries_of (Ticks seat) = seat.count

-- the entries of all of them
abbrev pub entries_of_all : {L D R P : Type 0} → List (Worker L D R P) → ℕ
entries_of_all workers = sum_by entries_of workers

-- the entries of the seat, if there is one
abbrev pub entries_of_seat : {L : Type 0} → Option (Seat L) → ℕ
entries_of_seat (Some seat) = seat.count
entries_of_seat None = 0
