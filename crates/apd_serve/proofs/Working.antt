-- What a worker has done, by what was done to what it owns.
use Rattle.std.proofs.Common.{refl}
use Rattle.apd_disk.specs.Disk.{DiskModel}
use Rattle.apd_flusher.specs.Handing.{Keeps}
use Rattle.apd_flusher.specs.declared.committer.Committer.{Committer}
use Rattle.apd_radio.specs.Model.{RadioModel}
use Rattle.apd_slot.specs.declared.slot.Slot.{Slot}
use Rattle.apd_desk.specs.Giving.{IsGivenOn}
use Rattle.apd_desk.specs.Holding.{IsLed}
use Rattle.apd_desk.specs.SeatProgress.{IsLater}
use Rattle.apd_desk.specs.declared.seat.Seat.{Seat}
use Rattle.apd_serve.specs.Worked.{HasWorked}
use Rattle.apd_serve.specs.declared.worker.Worker.TheVariants.{Committing, Radio, Control, Ticks}

module _ {L D R P : Type 0} (disk : DiskModel D) (radio : RadioModel R) where
  pub has_committed : (old new : Committer D) → IsLed disk old new → Keeps disk old new
      → HasWorked {L = L} {D = D} {R = R} {P = P} disk radio (Committing old) (Committing new)
  has_committed old new led keeps = record { new = new; still = refl; led = led; keeps = keeps }

  pub has_served : (seat later : Seat L) (old new : Slot R) → IsLater seat later → IsGivenOn radio old new
      → HasWorked {L = L} {D = D} {R = R} {P = P} disk radio (Radio seat old) (Radio later new)
  has_served seat later old new seat_is given =
      record { later = later; new = new; still = refl; seat_is = seat_is; given = given }

  pub has_replied : (seat later : Seat L) (old new : P) → IsLater seat later
      → HasWorked {L = L} {D = D} {R = R} {P = P} disk radio (Control seat old) (Control later new)
  has_replied seat later old new seat_is = (later, new, refl, seat_is)

  pub has_ticked : (seat later : Seat L) → IsLater seat later → HasWorked {L = L} {D = D} {R = R} {P = P} disk radio (Ticks seat) (Ticks later)
  has_ticked seat later seat_is = (later, refl, seat_is)
