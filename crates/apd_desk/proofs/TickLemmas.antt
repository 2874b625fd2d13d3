-- What the worker of ticks submits, tick by tick and turn by turn.
use Rattle.std.proofs.Common.{◌≡◌, ℕ, ◌+◌, ◌<◌, ◌≤◌, List, [], ◌∷◌, length, Result, refl, sym, ap, subst, arith}
use Rattle.std.specs.declared.alloc.AllocError.{AllocError}
use Rattle.std.specs.Int.{abs_diff}
use Rattle.apd_base.specs.declared.moment.Moment.{Moment}
use Rattle.apd_core.specs.declared.input.Input.TheVariants.{Tick}
use Rattle.apd_core.specs.declared.ticket.Accepted.{Accepted}
use Rattle.apd_steps.specs.Calls.{Made, SubmitTells}
use Rattle.apd_desk.specs.Asking.{by_seat}
use Rattle.apd_desk.specs.SeatProgress.{IsLater}
use Rattle.apd_desk.specs.Ticking.{AreTicks, AreTurns, HasEntered, HasTicked, IsTurn, MayGoOn, last_moment}
use Rattle.apd_desk.specs.declared.seat.Seat.{Seat}
use Rattle.apd_desk.specs.declared.ticking.TheConstants.{SECOND, TICKS}

-- so many ticks at one moment, each of which became an entry
pub record HasGoneOn {A : Type 0} (made : Made A) (m : Moment) (count : ℕ) (core after : A) : Type 0 where
  pub answers : List (Result Accepted AllocError)
  pub long : length answers ≡ count
  pub goes_on : MayGoOn answers
  pub are : AreTicks made m answers core after

-- turns, the last of which had this moment; where there is none yet, the first may be a second from it
pub record IsTickedUntil {A : Type 0} (made : Made A) (last : Moment) (core after : A) : Type 0 where
  pub begun : Moment
  pub moments : List Moment
  pub are : AreTurns made begun moments core after
  pub is_last : last_moment begun moments ≡ last

module _ {A : Type 0} (made : Made A) where
  module _ (m : Moment) where
    pub none_yet : (core : A) → HasGoneOn made m 0 core core
    none_yet core = record { answers = []; long = refl; goes_on = tt; are = refl }

    pub one_more : (count : ℕ) (core mid after : A) (answer : Result Accepted AllocError) → HasGoneOn made m count core mid
        → made (SubmitTells Tick m answer) mid after → HasEntered answer → HasGoneOn made m (count + 1) core after
    one_more count core mid after answer before tells entered =
        let long = before.long in
        record {
          answers = answer ∷ before.answers;
          long = omega (arith, long);
          goes_on = entered;
          are = (mid, before.are, before.goes_on, tells);
        }

    pub ends_with : (count : ℕ) (core mid after : A) (answer : Result Accepted AllocError) → count < TICKS → HasGoneOn made m count core mid
        → made (SubmitTells Tick m answer) mid after → IsTurn made m core after
    ends_with count core mid after answer fits before tells =
        let long = before.long in
        record {
          answers = answer ∷ before.answers;
          few = omega (arith, long, fits);
          are = (mid, before.are, before.goes_on, tells);
        }

    pub ends_full : (count : ℕ) (core after : A) → count ≤ TICKS → HasGoneOn made m count core after → IsTurn made m core after
    ends_full count core after fits before =
        let long = before.long in record { answers = before.answers; few = omega (arith, long, fits); are = before.are }

  pub no_turn : (begun : Moment) (core : A) → IsTickedUntil made begun core core
  no_turn begun core = record { begun = begun; moments = []; are = refl; is_last = refl }

  pub turn_more : (last now : Moment) (core mid after : A) → SECOND ≤ abs_diff now.0 last.0 → IsTickedUntil made last core mid
      → IsTurn made now mid after → IsTickedUntil made now core after
  turn_more last now core mid after apart before turn = record {
    begun = before.begun;
    moments = now ∷ before.moments;
    are = (mid, before.are, subst (λ (z : Moment). SECOND ≤ abs_diff now.0 z.0) (sym before.is_last) apart, turn);
    is_last = refl;
  }

  pub ticked : (last : Moment) (core after : A) → IsTickedUntil made last core after → HasTicked made core after
  ticked last core after until = record { begun = until.begun; moments = until.moments; are = until.are }

-- ---- of what is asked, by its seat
module _ {A B : Type 0} (made : Made A) (also : Made B) (seen : A → B)
    (sees : (call : _) (core after : A) → made call core after → also call (seen core) (seen after)) where
  ticks_as : (m : Moment) (answers : List (Result Accepted AllocError)) (core after : A) → AreTicks made m answers core after
      → AreTicks also m answers (seen core) (seen after)
  ticks_as m [] core after same = ap seen same
  ticks_as m (answer ∷ before) core after are =
      (seen are.0, ticks_as m before core are.0 are.1, are.2, sees (SubmitTells Tick m answer) are.0 after are.3)

  turns_as : (begun : Moment) (moments : List Moment) (core after : A) → AreTurns made begun moments core after
      → AreTurns also begun moments (seen core) (seen after)
  turns_as begun [] core after same = ap seen same
  turns_as begun (m ∷ before) core after are =
      let turn = are.3 in (
        seen are.0,
        turns_as begun before core are.0 are.1,
        are.2,
        record { answers = turn.answers; few = turn.few; are = ticks_as m turn.answers are.0 after turn.are },
      )

  pub ticked_as : (core after : A) → HasTicked made core after → HasTicked also (seen core) (seen after)
  ticked_as core after has =
      record { begun = has.begun; moments = has.moments; are = turns_as has.begun has.moments core after has.are }

-- ---- what a seat has seen then
module _ {L : Type 0} where
  later_on : (x y z : Seat L) → IsLater x y → IsLater y z → IsLater x z
  later_on x y z first next = (omega (arith, first, next), omega (arith, first, next))

  same_later : (x y : Seat L) → y ≡ x → IsLater x y
  same_later x y same = subst (λ (z : Seat L). IsLater x z) (sym same) (omega arith, omega arith)

  ticks_later : (m : Moment) (answers : List (Result Accepted AllocError)) (old new : Seat L) → AreTicks by_seat m answers old new
      → IsLater old new
  ticks_later m [] old new same = same_later old new same
  ticks_later m (answer ∷ before) old new are =
      later_on old are.0 new (ticks_later m before old are.0 are.1) are.3.3

  turns_later : (begun : Moment) (moments : List Moment) (old new : Seat L) → AreTurns by_seat begun moments old new → IsLater old new
  turns_later begun [] old new same = same_later old new same
  turns_later begun (m ∷ before) old new are =
      later_on old are.0 new (turns_later begun before old are.0 are.1) (ticks_later m are.3.answers are.0 new are.3.are)

  pub ticked_later : (old new : Seat L) → HasTicked by_seat old new → IsLater old new
  ticked_later old new has = turns_later has.begun has.moments old new has.are

  pub by_that_seat : (seat first last later : Seat L) → first ≡ seat → later ≡ last → HasTicked by_seat first last → HasTicked by_seat seat later
  by_that_seat seat first last later begins ends has =
      subst (λ (z : Seat L). HasTicked by_seat z later) begins (subst (λ (z : Seat L). HasTicked by_seat first z) (sym ends) has)
