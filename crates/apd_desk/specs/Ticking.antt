-- What the worker of ticks submits (own).
use Rattle.std.specs.Prelude.{◌≡◌, ◌≤◌, List, [], ◌∷◌, length, Result, Ok, Err}
use Rattle.std.specs.declared.alloc.AllocError.{AllocError}
use Rattle.std.specs.Int.{abs_diff}
use Rattle.apd_base.specs.declared.moment.Moment.{Moment}
use Rattle.apd_core.specs.declared.input.Input.TheVariants.{Tick}
use Rattle.apd_core.specs.declared.ticket.Accepted.{Accepted}
use Rattle.apd_core.specs.declared.ticket.Accepted.TheVariants.{Stopped, Busy, Quiet, Entry}
use Rattle.apd_steps.specs.Calls.{Made, SubmitTells}
use Rattle.apd_desk.specs.declared.ticking.TheConstants.{SECOND, TICKS}

-- a request became an entry
abbrev pub HasEntered : Result Accepted AllocError → Type 0
HasEntered (Ok Stopped) = ⊥
HasEntered (Ok Busy) = ⊥
HasEntered (Ok (Quiet reason)) = ⊥
HasEntered (Ok (Entry ticket)) = Unit {0}
HasEntered (Err short) = ⊥

-- of answers, the last of which stands first: one more may be asked for at the beginning, and behind an entry
abbrev pub MayGoOn : List (Result Accepted AllocError) → Type 0
MayGoOn [] = Unit {0}
MayGoOn (answer ∷ before) = HasEntered answer

-- ticks at one moment, by their answers, the last of which stands first
abbrev pub AreTicks : {A : Type 0} → Made A → Moment → List (Result Accepted AllocError) → A → A → Type 0
AreTicks made m [] core after = after ≡ core
AreTicks {A} made m (answer ∷ before) core after =
    (mid : A) × AreTicks made m before core mid × MayGoOn before × made (SubmitTells Tick m answer) mid after

-- a turn: ticks at one moment, so many at most, each but the first right behind one that became an entry, and nothing else
pub record IsTurn {A : Type 0} (made : Made A) (m : Moment) (core after : A) : Type 0 where
  pub answers : List (Result Accepted AllocError)
  pub few : length answers ≤ TICKS
  pub are : AreTicks made m answers core after

-- the moment of the last turn, and at first this one
abbrev pub last_moment : Moment → List Moment → Moment
last_moment begun [] = begun
last_moment begun (m ∷ before) = m

-- turns, by their moments, the last of which stands first: each is a second from the one before, and the first from the
-- moment at which it was begun
abbrev pub AreTurns : {A : Type 0} → Made A → Moment → List Moment → A → A → Type 0
AreTurns made begun [] core after = after ≡ core
AreTurns {A} made begun (m ∷ before) core after =
    (mid : A) × AreTurns made begun before core mid × (SECOND ≤ abs_diff m.0 (last_moment begun before).0)
    × IsTurn made m mid after

-- such turns lead there, and nothing else happened
pub record HasTicked {A : Type 0} (made : Made A) (core after : A) : Type 0 where
  pub begun : Moment
  pub moments : List Moment
  pub are : AreTurns made begun moments core after
