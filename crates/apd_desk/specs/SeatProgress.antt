-- What a seat has seen (own).
use Rattle.std.specs.Prelude.{ℕ, ◌<◌, ◌≤◌, nat_le, if◌then◌else◌}
use Rattle.apd_desk.specs.declared.seat.Seat.{Seat}

-- the greatest number of a settled entry that a seat saw, after an answer where that number is settled: never below the
-- one before
abbrev pub seen_number_after : ℕ → ℕ → ℕ
seen_number_after settled seen = if nat_le seen settled then settled else seen

-- what is settled is behind what the seat saw
abbrev pub IsBehind : ℕ → ℕ → Type 0
IsBehind settled seen = settled < seen

-- a seat later on: neither what it counts nor what it saw goes back
abbrev pub IsLater : {L : Type 0} → Seat L → Seat L → Type 0
IsLater old new = (old.count ≤ new.count) × (old.seen ≤ new.seen)
