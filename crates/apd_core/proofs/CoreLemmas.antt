-- What each call does to the state after all entries, and to the outs that are held.
use Rattle.std.proofs.Common.{◌≡◌, ℕ, ◌+◌, false, List, [], ◌∷◌, ◌++◌, Result, Ok, Err, refl, sym, ap, ◌∙◌}
use Rattle.std.specs.Prelude.{map}
use Rattle.apd_core.proofs.Words.{Accepted, Busy, CoreState, Happening, IsCore, Moment, Out, Quiet, QuietReason, Recipient, Stopped, after_handing_out, after_publish, answer_happenings, append-nil, beyond, front_of, held_for, is_same, last_of, map-append, meaning_in, outs_run, outs_to, queue_of, ready_for, run, state_after, up_to, verdict, verdict_there, with_entry}
use Rattle.apd_core.specs.declared.ticket.Accepted.TheVariants.{Entry}
use Rattle.apd_core.proofs.Keeping.{meaning-push}
use Rattle.apd_core.proofs.HeldLemmas.{queue_of-with_outs, queue_of-after_hand, queue_of-after_hand_other, queue_in_order}
use Rattle.apd_core.proofs.Queues.{given_first}
use Rattle.apd_core.proofs.Settling.{published_front, published_queue}

pub outs_only : (k : ℕ) (outs : List Out) → map (λ (x : ℕ × Out). x.1) (map (λ out. (k, out)) outs) ≡ outs
outs_only k [] = refl
outs_only k (out ∷ outs) = ap (λ os. out ∷ os) (outs_only k outs)

pub entry_front : (s : CoreState) (m : Moment) (h : Happening) → front_of (with_entry s m h) ≡ (verdict (front_of s) s.confs h).state
entry_front s m h = meaning-push s.unsettled (verdict (front_of s) s.confs h).changes s.settled ∙ meaning_in (front_of s) s.confs h

pub entry_held : (s : CoreState) (m : Moment) (h : Happening) (r : Recipient) → IsCore s → held_for r (with_entry s m h) ≡ held_for r s ++ outs_to r (verdict (front_of s) s.confs h).outs
entry_held s m h r core =
    let outs = (verdict (front_of s) s.confs h).outs in
    ap (λ q. map (λ (x : ℕ × Out). x.1) q) (queue_of-with_outs s.confs (last_of s + 1) outs s.held r (verdict_there (front_of s) s.confs h) core.queues)
    ∙ map-append (λ (x : ℕ × Out). x.1) (queue_of s.confs s.held r) (map (λ (out : Out). (last_of s + 1, out)) (outs_to r outs))
    ∙ ap (λ os. held_for r s ++ os) (outs_only (last_of s + 1) (outs_to r outs))

pub publish_front : (s : CoreState) → IsCore s → front_of (after_publish s) ≡ front_of s
publish_front s core = published_front s core

pub publish_held : (s : CoreState) (r : Recipient) → IsCore s → held_for r (after_publish s) ≡ held_for r s
publish_held s r core = ap (λ q. map (λ (x : ℕ × Out). x.1) q) (published_queue s core r)

pub hand_held : (s : CoreState) (r : Recipient) → IsCore s → ready_for r s ++ held_for r (after_handing_out r s) ≡ held_for r s
hand_held s r core =
    let q = queue_of s.confs s.held r in
    let first = λ (x : ℕ × Out). x.1 in
    ap (λ p. ready_for r s ++ map first p) (queue_of-after_hand s.confs s.number r s.held)
    ∙ sym (map-append first (up_to s.number q) (beyond s.number q))
    ∙ ap (map first) (given_first s.number q (queue_in_order s.confs s.held r core.held))

pub hand_others : (s : CoreState) (r q : Recipient) → is_same r q ≡ false → held_for q (after_handing_out r s) ≡ held_for q s
hand_others s r q apart = ap (λ p. map (λ (x : ℕ × Out). x.1) p) (queue_of-after_hand_other s.confs s.number r q s.held apart)

-- a request: what happened, and the answer to it
module _ (s : CoreState) (m : Moment) where
  pub request_front : (said : Result Happening QuietReason) (answer : Accepted) → front_of (state_after s m said answer) ≡ run (front_of s) s.confs (answer_happenings answer said)
  request_front (Err reason) (Entry ticket) = refl
  request_front (Err reason) (Quiet other) = refl
  request_front (Err reason) Busy = refl
  request_front (Err reason) Stopped = refl
  request_front (Ok h) (Entry ticket) = entry_front s m h
  request_front (Ok h) (Quiet reason) = refl
  request_front (Ok h) Busy = refl
  request_front (Ok h) Stopped = refl

  pub request_held : IsCore s → (r : Recipient) (said : Result Happening QuietReason) (answer : Accepted)
      → held_for r (state_after s m said answer) ≡ held_for r s ++ outs_run r (front_of s) s.confs (answer_happenings answer said)
  request_held core r (Err reason) (Entry ticket) = sym (append-nil (held_for r s))
  request_held core r (Err reason) (Quiet other) = sym (append-nil (held_for r s))
  request_held core r (Err reason) Busy = sym (append-nil (held_for r s))
  request_held core r (Err reason) Stopped = sym (append-nil (held_for r s))
  request_held core r (Ok h) (Entry ticket) = entry_held s m h r core ∙ ap (λ os. held_for r s ++ os) (sym (append-nil (outs_to r (verdict (front_of s) s.confs h).outs)))
  request_held core r (Ok h) (Quiet reason) = sym (append-nil (held_for r s))
  request_held core r (Ok h) Busy = sym (append-nil (held_for r s))
  request_held core r (Ok h) Stopped = sym (append-nil (held_for r s))
