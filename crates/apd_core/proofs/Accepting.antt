-- A request by the answer to what happened.
use Rattle.std.proofs.Common.{◌≡◌, ◌+◌, true, false, cond, Option, None, Some, Ok, refl, sym, ap, ◌∙◌}
use Rattle.apd_core.proofs.Words.{Accepted, Busy, CoreState, Happening, Input, Moment, Quiet, QuietReason, Stopped, after_request, answer_at, answer_to, answer_to_fit, entered_state, front_of, happening_of, is_busy, is_nothing, is_stopped, last_of, state_after, ticket, unfitness, verdict, with_sender}
use Rattle.apd_core.specs.declared.input.QuietReason.TheVariants as quiet
use Rattle.apd_core.specs.declared.ticket.Accepted.TheVariants.{Entry}

module _ (s : CoreState) (m : Moment) (i : Input) (h : Happening) where
  -- what happened becomes an entry
  pub entry_answer : unfitness (front_of s) s.confs h ≡ None → is_nothing (verdict (front_of s) s.confs h) ≡ false → answer_to s m i (Ok h) ≡ Entry (ticket (last_of s + 1) i m)
  entry_answer fit something = ap (answer_to_fit s m i h) fit ∙ ap (λ t. cond t (Quiet quiet.Nothing) (Entry (ticket (last_of s + 1) i m))) something

  -- the answer to a request is that to what happened, but where the core is stopped or busy
  pub happened_answer : is_stopped s ≡ false → is_busy s ≡ false → happening_of s.confs s.heard m i ≡ Ok h → answer_at s m i ≡ answer_to s m i (Ok h)
  happened_answer going free asked =
      ap (λ t. cond t Stopped (cond (is_busy s) Busy (answer_to s m i (happening_of s.confs s.heard m i)))) going
      ∙ ap (λ t. cond t Busy (answer_to s m i (happening_of s.confs s.heard m i))) free
      ∙ ap (answer_to s m i) asked

  -- then its state is that by the answer, in which the sender was heard
  abbrev LeavesDecided : Accepted → Type 0
  LeavesDecided answer = state_after s m (Ok h) answer ≡ with_sender m h (entered_state answer s m h)

  leaves_fit : (o : Option QuietReason) → LeavesDecided (answer_to_fit s m i h o)
  leaves_fit (Some reason) = refl
  leaves_fit None = elim (is_nothing (verdict (front_of s) s.confs h)) as (λ t. LeavesDecided (cond t (Quiet quiet.Nothing) (Entry (ticket (last_of s + 1) i m)))) [ true ↦ refl | false ↦ refl ]

  pub decided_state : (answer : Accepted) (new : CoreState) → is_stopped s ≡ false → is_busy s ≡ false → happening_of s.confs s.heard m i ≡ Ok h
      → answer ≡ answer_to s m i (Ok h) → new ≡ with_sender m h (entered_state answer s m h) → new ≡ after_request s m i
  decided_state answer new going free asked told is =
      is ∙ ap (λ t. with_sender m h (entered_state t s m h)) told ∙ sym (leaves_fit (unfitness (front_of s) s.confs h))
      ∙ sym (λ j. state_after s m (asked j) (happened_answer going free asked j))
