-- What a radio's worker does to its slot, by its seat (own).
use Rattle.std.specs.Prelude.{◌≡◌, ℕ, List, ◌∷◌, Option, Some, Ok}
use Rattle.apd_radio.specs.Model.{RadioModel}
use Rattle.apd_slot.specs.declared.mending.Mending.{Mending}
use Rattle.apd_slot.specs.declared.slot.Slot.{Slot}
use Rattle.apd_steps.specs.Serving.{Hand, IsRadioRun, RadioStep}
use Rattle.apd_desk.specs.Asking.{by_seat}
use Rattle.apd_desk.specs.declared.seat.Seat.{Seat}

-- Steps lead there, from mending by these spares that has not begun, and nothing else happened; for each call of the core
-- that a step made, there was a core that went so.
pub record HasServed {L R : Type 0} (radio : RadioModel R) (frames : R → Option (List (List ℕ))) (spares : List R)
    (seat later : Seat L) (old new : Slot R) : Type 0 where
  pub mending : Mending R
  pub unused : mending.spares.items ≡ spares
  pub begun : mending.tries ≡ 0
  pub left : Mending R
  pub run : IsRadioRun radio frames by_seat seat later old new mending left

-- Which entry had settled when the slot was given what is ready is noted anew right behind a hand that succeeded alone, and
-- as it was seen before that hand.
abbrev pub NotesHands : List RadioStep → ℕ → Option ℕ → Option ℕ → Type 0
NotesHands (Hand (Ok count) ∷ before) settled old new = new ≡ Some settled
NotesHands steps settled old new = new ≡ old
