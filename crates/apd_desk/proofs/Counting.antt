-- A request raises the number of the last entry by the entries in its answer, and a ticket in it holds the request.
use Rattle.std.proofs.Common.{◌≡◌, ℕ, ◌+◌, Bool, true, false, cond, [], ◌∷◌, ◌++◌, length, Option, None, Some, Result, Ok, Err, refl, subst, sym, ap, ◌∙◌, arith, length-append}
use Rattle.apd_base.specs.declared.moment.Moment.{Moment}
use Rattle.apd_event.specs.Happening.{Happening}
use Rattle.apd_mlme.specs.rules.{verdict}
use Rattle.apd_mlme.specs.Verdict.{is_nothing}
use Rattle.apd_core.specs.Core.{CoreState, answer_at, after_request, answer_to, answer_to_fit, front_of, is_busy, is_stopped, last_of, state_after, ticket}
use Rattle.apd_core.specs.Requests.{happening_of, unfitness}
use Rattle.apd_core.specs.declared.input.Input.{Input}
use Rattle.apd_core.specs.declared.input.QuietReason.{QuietReason}
use Rattle.apd_core.specs.declared.input.QuietReason.TheVariants as quiet
use Rattle.apd_core.specs.declared.ticket.Accepted.{Accepted}
use Rattle.apd_core.specs.declared.ticket.Accepted.TheVariants.{Stopped, Busy, Quiet, Entry}
use Rattle.apd_desk.specs.Counted.{entries_in}
use Rattle.apd_desk.specs.TicketOwner.{IsOwn}

module _ (s : CoreState) (m : Moment) (i : Input) where
  -- both, of what happened and an answer
  abbrev Fits : Result Happening QuietReason → Accepted → Type 0
  Fits asked answer = (last_of (state_after s m asked answer) ≡ last_of s + entries_in answer) × IsOwn i m answer

  no_more : last_of s ≡ last_of s + 0
  no_more = omega arith

  quiet_fits : (asked : Result Happening QuietReason) (reason : QuietReason) → Fits asked (Quiet reason)
  quiet_fits (Ok h) reason = (no_more, tt)
  quiet_fits (Err e) reason = (no_more, tt)

  busy_fits : (asked : Result Happening QuietReason) → Fits asked Busy
  busy_fits (Ok h) = (no_more, tt)
  busy_fits (Err e) = (no_more, tt)

  stopped_fits : (asked : Result Happening QuietReason) → Fits asked Stopped
  stopped_fits (Ok h) = (no_more, tt)
  stopped_fits (Err e) = (no_more, tt)

  entry_fits : (h : Happening) (k : ℕ) → Fits (Ok h) (Entry (ticket k i m))
  entry_fits h k =
      let more : length (s.unsettled ++ (verdict (front_of s) s.confs h).changes ∷ []) ≡ length s.unsettled + 1 = length-append s.unsettled ((verdict (front_of s) s.confs h).changes ∷ []) in
      (omega (arith, more), (refl, refl))

  fit_fits : (h : Happening) (o : Option QuietReason) → Fits (Ok h) (answer_to_fit s m i h o)
  fit_fits h (Some reason) = quiet_fits (Ok h) reason
  fit_fits h None =
      elim (is_nothing (verdict (front_of s) s.confs h)) as (λ t. Fits (Ok h) (cond t (Quiet quiet.Nothing) (Entry (ticket (last_of s + 1) i m)))) [
        | true ↦ quiet_fits (Ok h) quiet.Nothing
        | false ↦ entry_fits h (last_of s + 1)
      ]

  answer_fits : (asked : Result Happening QuietReason) → Fits asked (answer_to s m i asked)
  answer_fits (Ok h) = fit_fits h (unfitness (front_of s) s.confs h)
  answer_fits (Err reason) = quiet_fits (Err reason) reason

  busy_or : (asked : Result Happening QuietReason) (b : Bool) → Fits asked (cond b Busy (answer_to s m i asked))
  busy_or asked true = busy_fits asked
  busy_or asked false = answer_fits asked

  stopped_or : (asked : Result Happening QuietReason) (b : Bool) → Fits asked (cond b Stopped (cond (is_busy s) Busy (answer_to s m i asked)))
  stopped_or asked true = stopped_fits asked
  stopped_or asked false = busy_or asked (is_busy s)

  pub request_fits : (last_of (after_request s m i) ≡ last_of s + entries_in (answer_at s m i)) × IsOwn i m (answer_at s m i)
  request_fits = stopped_or (happening_of s.confs s.heard m i) (is_stopped s)

  -- the same of an answer and a state that are known to be these
  pub last_after : (answer : Accepted) (new : CoreState) → answer ≡ answer_at s m i → new ≡ after_request s m i → last_of new ≡ last_of s + entries_in answer
  last_after answer new a b = ap last_of b ∙ request_fits.0 ∙ ap (λ t. last_of s + entries_in t) (sym a)

  pub own_after : (answer : Accepted) → answer ≡ answer_at s m i → IsOwn i m answer
  own_after answer a = subst (IsOwn i m) (sym a) request_fits.1
