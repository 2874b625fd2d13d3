-- What is known of a call of a shared core by a seat (own).
use Rattle.std.specs.Prelude.{◌≡◌, ◌+◌}
use Rattle.apd_core.specs.Core.{CoreState, last_of}
use Rattle.apd_steps.specs.Calls.{Made, exactly}
use Rattle.apd_desk.specs.SeatProgress.{IsLater}
use Rattle.apd_desk.specs.declared.seat.Seat.{Seat}

-- there was a core that went so; the seat is later, and counts as many entries more as that core has
abbrev pub by_seat : {L : Type 0} → Made (Seat L)
by_seat call old new = (core : CoreState) × (after : CoreState) × exactly call core after × IsLater old new
    × (new.count + last_of core ≡ old.count + last_of after)
