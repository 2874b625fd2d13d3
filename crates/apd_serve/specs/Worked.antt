-- What becomes of a worker that works (own).
use Rattle.std.specs.Prelude.{◌≡◌}
use Rattle.apd_disk.specs.Disk.{DiskModel}
use Rattle.apd_flusher.specs.Handing.{Keeps}
use Rattle.apd_flusher.specs.declared.committer.Committer.{Committer}
use Rattle.apd_radio.specs.Model.{RadioModel}
use Rattle.apd_slot.specs.declared.slot.Slot.{Slot}
use Rattle.apd_desk.specs.Giving.{IsGivenOn}
use Rattle.apd_desk.specs.Holding.{IsLed}
use Rattle.apd_desk.specs.SeatProgress.{IsLater}
use Rattle.apd_desk.specs.declared.seat.Seat.{Seat}
use Rattle.apd_serve.specs.declared.worker.Worker.{Worker}
use Rattle.apd_serve.specs.declared.worker.Worker.TheVariants.{Committing, Radio, Control, Ticks}

-- its committer is led on by steps, so that no batch and no receipt was lost
pub record HasCommitted {L D R P : Type 0} (disk : DiskModel D) (old : Committer D)
    (after : Worker L D R P) : Type 0 where
  pub new : Committer D
  pub still : after ≡ Committing new
  pub led : IsLed disk old new
  pub keeps : Keeps disk old new

-- its slot was given outs, and its seat never goes back
pub record HasServed {L D R P : Type 0} (radio : RadioModel R) (seat : Seat L) (old : Slot R)
    (after : Worker L D R P) : Type 0 where
  pub later : Seat L
  pub new : Slot R
  pub still : after ≡ Radio later new
  pub seat_is : IsLater seat later
  pub given : IsGivenOn radio old new

-- it is the worker that it was, and owns what it owned
abbrev pub HasWorked : {L D R P : Type 0} → DiskModel D → RadioModel R → Worker L D R P → Worker L D R P → Type 0
HasWorked disk radio (Committing old) after = HasCommitted disk old after
HasWorked disk radio (Radio seat old) after = HasServed radio seat old after
HasWorked {L} {D} {R} {P} disk radio (Control seat old) after =
    (later : Seat L) × (new : P) × (after ≡ Control later new) × IsLater seat later
HasWorked {L} disk radio (Ticks seat) after = (later : Seat L) × (after ≡ Ticks later) × IsLater seat later
