-- What a stop leaves of a durable core: the state after a front of what happened.
use Rattle.std.specs.Prelude.{◌≡◌, ◌⊎◌, ◌==◌, ℕ, List, take, Option, None, Some, if◌then◌else◌}
use Rattle.apd_world.specs.Words.{Batch, CoreState, Happening, Shows, batch_of, run}
use Rattle.apd_flusher.specs.Committing as committer
use Rattle.apd_world.specs.CoreRun.{AreUnsettled}

-- the number is none, or that of the entries in flight
pub record ShowsFlight (s : CoreState) (hs : List Happening) (image : List ℕ) : Type 0 where
  pub count : ℕ
  pub some_of : (count ≡ 0) ⊎ (count ≡ s.flight)
  pub shows : Shows image (run s.settled s.confs (take count hs))

-- a stop now leaves images of the settled state, or of that after the entries in flight
abbrev pub AreOfFlight : CoreState → (List ℕ → Type 0) → Type 0
AreOfFlight s images = (hs : List Happening) → AreUnsettled hs s → (image : List ℕ) → images image
    → ShowsFlight s hs image

-- of that after the entries in flight alone
abbrev pub AreAfterFlight : CoreState → (List ℕ → Type 0) → Type 0
AreAfterFlight s images =
    (hs : List Happening) → AreUnsettled hs s → (image : List ℕ) → images image
    → Shows image (run s.settled s.confs (take s.flight hs))

-- the batch in flight
abbrev pub flight_of : CoreState → Option Batch
flight_of s = if s.flight == 0 then None else Some (batch_of s)

-- the image shows the settled state, or that after the batch in flight
abbrev pub ShowsEither : CoreState → List ℕ → Type 0
ShowsEither s image = committer.ShowsEither s.settled (flight_of s) image
