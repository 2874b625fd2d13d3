-- What a seat knows of a call.
use Rattle.std.proofs.Common.{◌≡◌, ℕ, ◌+◌, ◌≤◌, List, Result, Ok, Err, ap, arith}
use Rattle.std.specs.Prelude.{IfOk, OnErr, OnOk}
use Rattle.std.specs.declared.alloc.AllocError.{AllocError}
use Rattle.apd_base.specs.declared.address.Bssid.{Bssid}
use Rattle.apd_base.specs.declared.moment.Moment.{Moment}
use Rattle.apd_core.specs.Core.{CoreState, last_of}
use Rattle.apd_core.specs.declared.input.Input.{Input}
use Rattle.apd_core.specs.declared.query_answer.Answer.{Answer}
use Rattle.apd_core.specs.declared.ticket.Accepted.{Accepted}
use Rattle.apd_ctrl.specs.declared.command.Query.{Query}
use Rattle.apd_mlme.specs.declared.decision.Out.{Out}
use Rattle.apd_mlme.specs.declared.decision.Recipient.{Recipient}
use Rattle.apd_slot.specs.declared.slot.Slot.{Slot}
use Rattle.apd_steps.specs.Calls.{AskTells, CollectTells, SubmitTells, exactly, outs_in}
use Rattle.apd_steps.specs.Handing.{HandsTo}
use Rattle.apd_desk.specs.Asking.{by_seat}
use Rattle.apd_desk.specs.Counted.{entries_in}
use Rattle.apd_desk.specs.SeatProgress.{IsLater}
use Rattle.apd_desk.specs.declared.seat.Seat.{Seat}
use Rattle.apd_desk.proofs.Counting.{last_after}

module _ {L : Type 0} (core after : CoreState) (old new : Seat L) where
  pub by_submit : (A B : Type 0) (answer : Result Accepted AllocError) (i : Input) (m : Moment) → exactly (SubmitTells i m answer) core after
      → IfOk answer (λ a. new.count ≡ old.count + entries_in a) → OnErr answer (A × B × (new.count ≡ old.count)) → new.seen ≡ old.seen
      → by_seat (SubmitTells i m answer) old new
  by_submit A B (Ok a) i m tells count err seen =
      let last : last_of after ≡ last_of core + entries_in a = last_after core m i a after tells.1.0 tells.1.1 in
      (core, after, tells, (omega (arith, count), omega (arith, seen)), omega (arith, last, count))
  by_submit A B (Err short) i m tells count err seen =
      let last : last_of after ≡ last_of core = ap last_of tells.1.1 in
      let same = err.2 in
      (core, after, tells, (omega (arith, same), omega (arith, seen)), omega (arith, last, same))

  pub by_collect : {V : Type 0} (items : V → List Out) (answer : Result V AllocError) (to : Recipient)
      → exactly (CollectTells to (outs_in items answer)) core after → IsLater old new → new.count ≡ old.count
      → by_seat (CollectTells to (outs_in items answer)) old new
  by_collect items (Ok outs) to tells later count =
      let last : last_of after ≡ last_of core = ap last_of tells.1.1 in
      (core, after, tells, later, omega (arith, last, count))
  by_collect items (Err short) to tells later count =
      let last : last_of after ≡ last_of core = ap last_of tells.1.1 in
      (core, after, tells, later, omega (arith, last, count))

  pub by_hand : {R : Type 0} (answer : Result ℕ AllocError) (b : Bssid) (x y : Slot R)
      → exactly (λ c d. HandsTo b answer c d x y) core after → IsLater old new → new.count ≡ old.count
      → by_seat (λ c d. HandsTo b answer c d x y) old new
  by_hand (Ok count) b x y tells later same =
      let last : last_of after ≡ last_of core = ap last_of tells.1.1 in
      (core, after, tells, later, omega (arith, last, same))
  by_hand (Err short) b x y tells later same =
      let last : last_of after ≡ last_of core = ap last_of tells.1.1 in
      (core, after, tells, later, omega (arith, last, same))

-- a query leaves the core
module _ {L : Type 0} (core : CoreState) (old new : Seat L) where
  pub by_ask : {E : Type 0} (answer : Result Answer E) (q : Query) → exactly (AskTells q answer) core core → OnOk answer (old.seen ≤ new.seen)
      → OnErr answer (new.seen ≡ old.seen) → new.count ≡ old.count → by_seat (AskTells q answer) old new
  by_ask (Ok told) q tells rises err count = (core, core, tells, (omega (arith, count), rises), omega (arith, count))
  by_ask (Err why) q tells rises err count =
      (core, core, tells, (omega (arith, count), omega (arith, err)), omega (arith, count))
