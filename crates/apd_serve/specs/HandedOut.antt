-- What is handed to a slot by a seat (own).
use Rattle.std.specs.Prelude.{ℕ, List, Option}
use Rattle.apd_radio.specs.Model.{RadioModel}
use Rattle.apd_slot.specs.declared.mending.Mending.{Mending}
use Rattle.apd_slot.specs.declared.slot.Slot.{Slot}
use Rattle.apd_steps.specs.Serving.{IsRadioRun}
use Rattle.apd_desk.specs.Asking.{by_seat}
use Rattle.apd_desk.specs.declared.seat.Seat.{Seat}

-- steps lead there that leave the mending, whatever it is
abbrev pub IsHandedBy : {L R : Type 0} → RadioModel R → (R → Option (List (List ℕ))) → Seat L → Seat L → Slot R → Slot R → Type 0
IsHandedBy {R = R} radio frames seat later old new =
    (mending : Mending R) → IsRadioRun radio frames by_seat seat later old new mending mending
