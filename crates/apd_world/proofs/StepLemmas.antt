-- How a durable core goes on by each kind of step.
use Rattle.std.proofs.Common.{◌≡◌, ◌+◌, List, [], ◌∷◌, Some, None, refl, sym, ap, subst, ◌∙◌, Result, Ok, Err}
use Rattle.std.specs.Prelude.{◌==◌, if◌then◌else◌}
use Rattle.std.proofs.lemmas.List.{take-append-le}
use Rattle.apd_world.proofs.Words.{Accept, Accepted, Answer, Answered, AreFit, Ask, Call, Called, CoreState, DurableCore, Goes, Hand, Handed, Happening, Input, IsAccepted, IsCalled, IsCore, IsHanded, IsPublished, IsAsked, IsStep, IsTakenUp, Loaded, Moment, NoMemory, Nothing, Out, Publish, Published, Query, Queued, QuietReason, Reception, Recipient, Step, StoreFault, Take, Tells, Told, answer_at, after_request, changes_of, step_happenings, reception_happenings, answer_happenings, has_failed_after, flight_of, front_of, handed_outs, after_handing_out, happening_of, heard_after, heard_as, heard_by, after_publish, reception_of, state_after, verdict}
use Rattle.apd_core.specs.declared.ticket.Accepted.{Accepted as CoreAccepted}
use Rattle.apd_core.specs.declared.ticket.Accepted.TheVariants as core_accepted
use Rattle.apd_world.specs.declared.fault.WorldFault.TheVariants as world_fault
use Rattle.apd_world.proofs.Speaking.{after_call, called_core, next_core, taken_next}
use Rattle.apd_world.proofs.Goings.{goes_beside, goes_entry, goes_handed, goes_published, goes_unchanged}

-- ---- any step that leaves this core
module _ {D : Type 0} (step : Step) (told : Told) (old new : DurableCore D) where
  pub step_by : (core : CoreState) → new.core ≡ core → Tells step told old new → Goes (step_happenings old.core.confs old.core.heard step told) (λ r. handed_outs r step told) old.core core
      → core.heard ≡ heard_after old.core.confs (front_of old.core) old.core.heard step told → IsStep step told old new
  step_by core is tells goes heard = record {
    tells = tells;
    goes = subst (λ (s : CoreState). Goes (step_happenings old.core.confs old.core.heard step told) (λ r. handed_outs r step told) old.core s) (sym is) goes;
    heard = ap (λ (s : CoreState). s.heard) is ∙ heard;
  }

  -- nothing has changed
  pub step_unchanged : new ≡ old → Tells step told old new
      → Goes (step_happenings old.core.confs old.core.heard step told) (λ r. handed_outs r step told) old.core old.core
      → old.core.heard ≡ heard_after old.core.confs (front_of old.core) old.core.heard step told → IsStep step told old new
  step_unchanged is tells goes heard = step_by old.core (ap (λ (w : DurableCore D). w.core) is) tells goes heard

-- ---- a request
pub record IsRequested (s : CoreState) (m : Moment) (asked : Result Happening QuietReason) (answer : Reception) (next : CoreState) : Type 0 where
  pub goes : Goes (reception_happenings answer asked) (λ _. []) s next
  pub heard : next.heard ≡ heard_as s.confs (front_of s) m answer asked s.heard
  pub failed : next.failed ≡ s.failed
  pub settled : next.settled ≡ s.settled
  pub flight : flight_of next ≡ flight_of s

unchanged_request : (s : CoreState) (m : Moment) (asked : Result Happening QuietReason) (answer : Reception) → reception_happenings answer asked ≡ [] → s.heard ≡ heard_as s.confs (front_of s) m answer asked s.heard
    → IsRequested s m asked answer s
unchanged_request s m asked answer none heard =
    record { goes = subst (λ (es : List Happening). Goes es (λ _. []) s s) (sym none) (goes_unchanged s); heard = heard; failed = refl; settled = refl; flight = refl }

pub requested : (s : CoreState) (m : Moment) (asked : Result Happening QuietReason) (a : CoreAccepted) → IsCore s → AreFit (front_of s) s.confs (reception_happenings (reception_of a) asked)
    → IsRequested s m asked (reception_of a) (state_after s m asked a)
requested s m (Ok h) (core_accepted.Entry t) core fit = record {
  goes = goes_entry s m h core fit.0;
  heard = refl;
  failed = refl;
  settled = refl;
  flight = λ i. if s.flight == 0 then None
      else Some (record { first = s.number + 1; last = s.number + s.flight; changes = changes_of (take-append-le s.flight s.unsettled ((verdict (front_of s) s.confs h).changes ∷ []) core.in_flight i) });
}
requested s m (Ok h) (core_accepted.Quiet reason) core fit =
    record { goes = goes_beside s s.flight (heard_by m h s.heard) s.failed; heard = refl; failed = refl; settled = refl; flight = refl }
requested s m (Ok h) a core fit = unchanged_request s m (Ok h) (reception_of a) refl refl
requested s m (Err reason) (core_accepted.Entry t) core fit = unchanged_request s m _ _ refl refl
requested s m (Err reason) a core fit = unchanged_request s m (Err reason) (reception_of a) refl refl

same_entered : (a : CoreAccepted) (asked : Result Happening QuietReason) → answer_happenings a asked ≡ reception_happenings (reception_of a) asked
same_entered (core_accepted.Entry t) (Ok h) = refl
same_entered (core_accepted.Entry t) (Err reason) = refl
same_entered (core_accepted.Quiet why) asked = refl
same_entered core_accepted.Busy asked = refl
same_entered core_accepted.Stopped asked = refl

-- what a request does to a core, by its answer
pub request_goes : (s : CoreState) (m : Moment) (i : Input) (a : CoreAccepted) → a ≡ answer_at s m i → IsCore s → AreFit (front_of s) s.confs (answer_happenings a (happening_of s.confs s.heard m i))
    → IsRequested s m (happening_of s.confs s.heard m i) (reception_of a) (after_request s m i)
request_goes s m i a is core fit =
    let asked = happening_of s.confs s.heard m i in
    subst (λ (z : CoreAccepted). IsRequested s m asked (reception_of a) (state_after s m asked z)) is
    (requested s m asked a core (subst (λ (es : List Happening). AreFit (front_of s) s.confs es) (same_entered a asked) fit))

pub accepted_is : {D : Type 0} (i : Input) (m : Moment) (answer : Reception) (a : CoreAccepted) (old : DurableCore D) (core : CoreState) → answer ≡ reception_of a → a ≡ answer_at old.core m i
    → AreFit (front_of old.core) old.core.confs (answer_happenings a (happening_of old.core.confs old.core.heard m i)) → core ≡ after_request old.core m i → IsAccepted i m answer old (record old { core = core })
accepted_is i m answer a old core is told fit after =
    let asked = happening_of old.core.confs old.core.heard m i in
    record {
      answer_is = is ∙ ap reception_of told;
      fit = subst (λ (es : List Happening). AreFit (front_of old.core) old.core.confs es) (same_entered a asked ∙ ap (λ (z : Reception). reception_happenings z asked) (sym is)) fit;
      only = λ j. record old { core = after j };
    }

-- ---- what a call tells
pub same_called : (r s : Result (Unit {0}) StoreFault) → Called r ≡ Called s → r ≡ s
same_called r s same = cc

pub nothing_not_called : (r : Result (Unit {0}) StoreFault) → Nothing ≡ Called r → ⊥
nothing_not_called r told = cc

pub queued_not_called : (count : _) (r : Result (Unit {0}) StoreFault) → Queued count ≡ Called r → ⊥
queued_not_called count r told = cc

pub lacking_not_called : (r : Result (Unit {0}) StoreFault) → NoMemory ≡ Called r → ⊥
lacking_not_called r told = cc

pub same_fault : (e f : StoreFault) → world_fault.Store e ≡ world_fault.Store f → e ≡ f
same_fault e f same = cc

module _ {D : Type 0} (old new : DurableCore D) where
  pub accept_request : (i : Input) (m : Moment) (answer : Reception) → IsCore old.core → IsAccepted i m answer old new
      → IsRequested old.core m (happening_of old.core.confs old.core.heard m i) answer (after_request old.core m i)
  accept_request i m answer core h =
      let asked = happening_of old.core.confs old.core.heard m i in
      subst (λ (z : Reception). IsRequested old.core m asked z (after_request old.core m i)) (sym h.answer_is)
      (requested old.core m asked (answer_at old.core m i) core (subst (λ (z : Reception). AreFit (front_of old.core) old.core.confs (reception_happenings z asked)) h.answer_is h.fit))

  pub accept_step : (i : Input) (m : Moment) (answer : Reception) → IsCore old.core → IsAccepted i m answer old new → IsStep (Accept i m) (Accepted answer) old new
  accept_step i m answer core h =
      let done = accept_request i m answer core h in
      step_by (Accept i m) (Accepted answer) old new (after_request old.core m i) (ap (λ (w : DurableCore D). w.core) h.only) h done.goes done.heard

  -- a batch is taken, or waits
  pub take_step : (result : Result (Unit {0}) _) → IsTakenUp result old new → IsStep Take (Loaded result) old new
  take_step result h =
      step_by Take (Loaded result) old new (record old.core { flight = new.core.flight }) (next_core h.1.load.batch old new.core (taken_next result old new h)) h (goes_beside old.core new.core.flight old.core.heard old.core.failed) refl

  pub call_step : (result : Result (Unit {0}) StoreFault) → IsCalled result old new → IsStep Call (Called result) old new
  call_step result h =
      step_by Call (Called result) old new (after_call result old.core) (called_core result old new h) h (goes_beside old.core old.core.flight old.core.heard (has_failed_after result old.core.failed)) refl

  pub publish_step : (x : Unit {0}) → IsPublished (Ok x) old new → IsStep Publish (Published (Ok x)) old new
  publish_step x h = step_by Publish (Published (Ok x)) old new (after_publish old.core) h.1.tells.1.1 h (goes_published old.core h.1.tells.0) refl

  pub unpublished_step : (fault : _) → IsPublished (Err fault) old new → IsStep Publish (Published (Err fault)) old new
  unpublished_step fault h = step_by Publish (Published (Err fault)) old new old.core h.1.tells.1.1 h (goes_unchanged old.core) refl

  pub hand_step : (q : Recipient) (outs : List Out) → IsCore old.core → IsHanded q outs old new → IsStep (Hand q) (Handed outs) old new
  hand_step q outs core h =
      step_by (Hand q) (Handed outs) old new (after_handing_out q old.core) (ap (λ (w : DurableCore D). w.core) h.only) h
      (subst (λ (os : List Out). Goes [] (λ r. handed_outs r (Hand q) (Handed os)) old.core (after_handing_out q old.core)) (sym h.outs_are) (goes_handed q old.core core)) refl

  pub ask_step : (q : Query) (answer : Answer) → IsAsked q answer old new → IsStep (Ask q) (Answered answer) old new
  ask_step q answer h = step_unchanged (Ask q) (Answered answer) old new h.only h (goes_unchanged old.core) refl
