-- From what a step does to a core and its committer, what it does to a durable core.
use Rattle.std.proofs.Common.{◌≡◌, ℕ, Bool, true, List, Option, Some, None, Result, Ok, Err, inl, inr, ⊎_elim, refl, sym, ap, subst, ◌∙◌}
use Rattle.std.specs.declared.alloc.AllocError.{AllocError}
use Rattle.apd_journal.specs.declared.batch.Batch.{Batch}
use Rattle.apd_store.specs.declared.fault.StoreFault.TheVariants as store_fault
use Rattle.apd_core.specs.declared.publish_fault.PublishFault.{PublishFault}
use Rattle.apd_core.specs.declared.ticket.Accepted.{Accepted as CoreAccepted}
use Rattle.apd_flusher.specs.Committing.{IsWhole as IsCommitter}
use Rattle.apd_flusher.specs.Outside.{flusher_device, flusher_of as flusher_in}
use Rattle.apd_steps.specs.Calls.{CollectTells, SubmitTells, TakeTells, exactly}
use Rattle.apd_steps.specs.Committing.{IsGivenBy}
use Rattle.apd_steps.specs.Handing.{HandsTo}
use Rattle.apd_steps.specs.Run as steps
use Rattle.apd_world.proofs.Words.{Accept, Accepted, Bssid, Call, Called, Committer, CoreState, DiskModel, DurableCore, Flusher, Hand, Handed, HasRisen, Input, IsCore, IsInStep, IsPublished, IsSafe, IsStep, IsStepMade, IsUnderWay, IsWhole, Moment, NoMemory, Nothing, Out, Publish, Published, QueuesReady, Queued, Radio, Receipt, Reception, Recipient, Slot, State, StoreFault, Take, Told, TurnTells, device_of, flight_of, flusher_of, ready_for, reception_of}
use Rattle.apd_world.specs.WorkerRun.{told_called, told_published, told_taken}
use Rattle.apd_world.proofs.DurableSteps.{gives_whole, made_beside, made_unchanged, safe_beside, settled_whole}
use Rattle.apd_world.proofs.Goings.{goes_unchanged}
use Rattle.apd_world.proofs.Speaking.{called_core}
use Rattle.apd_world.proofs.StepLemmas.{accept_request, accept_step, accepted_is, call_step, hand_step, lacking_not_called, nothing_not_called, publish_step, queued_not_called, same_called, step_unchanged, take_step, unpublished_step}

module _ {D : Type 0} (disk : DiskModel D) where
  module _ (old new : DurableCore D) where
    abbrev Went : steps.Step → Type 0
    Went step = steps.IsStep disk exactly step old.core new.core old.committer new.committer

    -- what a stop leaves
    safe_by : (step : steps.Step) → Went step → (IsWhole disk old → IsWhole disk new) → IsSafe disk old new
    safe_by step h whole = record {
      whole = whole;
      proper = λ p. record { whole = whole p.whole; imaged = h.keeps.imaged p.imaged };
      inside = λ p. h.since old.core.settled (flight_of old.core) old.core.failed p.whole p.imaged;
    }

    -- the same committer beside the same core
    abbrev same_both : new.core ≡ old.core → new.committer ≡ old.committer → new ≡ old
    same_both core committer = λ i. record old { core = core i; committer = committer i }

    -- ---- taking
    given_whole : (given : Option Batch) → steps.KeepsAtTake disk given old.committer new.committer
        → exactly (TakeTells (Ok given)) old.core new.core → IsWhole disk old → IsWhole disk new
    given_whole None keeps gives h =
        subst (λ (s : CoreState). IsCommitter disk new.committer s.settled (flight_of s) s.failed) (sym gives.1.1)
        (keeps.waits old.core.settled (flight_of old.core) old.core.failed refl h)
    given_whole (Some b) keeps gives h =
        gives_whole disk b old new.core new.committer gives.1.0 gives.1.1 (keeps.handed_in old.core.settled b old.core.failed refl (gives.1.2, gives.1.3)) h

    taken_whole : (given : Option Batch) → IsGivenBy exactly given old.core new.core old.committer → steps.KeepsAtTake disk given old.committer new.committer
        → IsWhole disk old → IsWhole disk new
    taken_whole given from keeps h =
        ⊎_elim
        (λ waits. subst (λ (s : CoreState). IsCommitter disk new.committer s.settled (flight_of s) s.failed) (sym waits.2)
        (keeps.waits old.core.settled (flight_of old.core) old.core.failed waits.1 h))
        (λ gives. given_whole given keeps gives.1 h)
        from

    pub takes : (given : Option Batch) (told : Result (Option (Result (Unit {0}) StoreFault)) AllocError) → Went (steps.Take given told)
        → IsStep Take (told_taken told) old new × IsSafe disk old new
    takes given (Ok (Some answer)) h =
        (take_step old new answer (given, h.does), safe_by (steps.Take given (Ok (Some answer))) h (taken_whole given h.does.from h.whole))
    takes given (Ok None) h =
        let same = same_both h.does.2.1.1 h.does.3 in (
          step_unchanged Take Nothing old new same ((h.does.1, h.does.2.1.0), same) (goes_unchanged old.core) refl,
          safe_by (steps.Take given (Ok None)) h (λ w. subst (λ (d : DurableCore D). IsWhole disk d) (sym same) w),
        )
    takes given (Err short) h =
        let same = same_both h.does.2.1.1 h.does.3 in (
          step_unchanged Take NoMemory old new same ((h.does.1, h.does.2.1.0), same) (goes_unchanged old.core) refl,
          safe_by (steps.Take given (Err short)) h (λ w. subst (λ (d : DurableCore D). IsWhole disk d) (sym same) w),
        )

    -- ---- calling
    call_rises : (answer : Result (Unit {0}) StoreFault) (f g : Flusher D) → TurnTells disk answer f g → answer ≡ Err store_fault.Device
        → HasRisen (disk.failed (flusher_device f)) (disk.failed (flusher_device g))
    call_rises (Ok x) f g t is = absurd (let no : ⊥ = cc in no)
    call_rises (Err fault) f g t is = t.device_failed (let same : fault ≡ store_fault.Device = cc in same)

    pub calls : (told : Option (Result (Unit {0}) StoreFault)) → Went (steps.Call told)
        → IsStep Call (told_called told) old new × IsStepMade disk (told_called told) old new
    calls (Some answer) h =
        let s = old.core in
        let turn = h.whole.turn in (
          call_step old new answer h.does,
          record {
            one_call = turn.turn.one_call;
            count = turn.turn.count;
            fault = λ told. call_rises answer (flusher_of old) (flusher_of new) turn.tells (same_called answer _ told);
            safe = safe_by (steps.Call (Some answer)) h
                (λ w. subst (λ (z : CoreState). IsCommitter disk new.committer z.settled (flight_of z) z.failed) (sym (called_core answer old new h.does))
                (h.whole.whole s.settled (flight_of s) s.failed w));
          },
        )
    calls None h =
        let same = same_both h.does.1 h.does.2 in (
          step_unchanged Call Nothing old new same (h.does.0, same) (goes_unchanged old.core) refl,
          made_beside disk Nothing old new (ap device_of same) (nothing_not_called _)
              (safe_by (steps.Call None) h (λ w. subst (λ (d : DurableCore D). IsWhole disk d) (sym same) w)),
        )

    -- ---- publishing
    published_whole : (receipt : Receipt) (answer : Result (Unit {0}) PublishFault) → Went (steps.Publish (Some receipt) (Some answer))
        → IsWhole disk old → IsWhole disk new
    published_whole receipt (Ok x) h w =
        settled_whole disk receipt old new.core new.committer h.does.tells.1.0 h.does.tells.1.1 (h.whole old.core.settled (flight_of old.core) old.core.failed w).1
    published_whole receipt (Err fault) h w =
        subst (λ (s : CoreState). IsCommitter disk new.committer s.settled (flight_of s) s.failed) (sym h.does.tells.1.1)
        (h.whole old.core.settled (flight_of old.core) old.core.failed w).1

    published_step : (answer : Result (Unit {0}) PublishFault) → IsPublished answer old new → IsStep Publish (Published answer) old new
    published_step (Ok x) h = publish_step old new x h
    published_step (Err fault) h = unpublished_step old new fault h

    pub publishes : (receipt : Option Receipt) (told : Option (Result (Unit {0}) PublishFault)) → Went (steps.Publish receipt told)
        → IsStep Publish (told_published told) old new × IsSafe disk old new
    publishes (Some receipt) (Some answer) h =
        (published_step answer (receipt, h.does), safe_by (steps.Publish (Some receipt) (Some answer)) h (published_whole receipt answer h))
    publishes None None h =
        let same = same_both h.does.1 h.does.2 in (
          step_unchanged Publish Nothing old new same (h.does.0, same) (goes_unchanged old.core) refl,
          safe_by (steps.Publish None None) h (λ w. subst (λ (d : DurableCore D). IsWhole disk d) (sym same) w),
        )
    publishes (Some receipt) None h = absurd h.does
    publishes None (Some answer) h = absurd h.does

    -- ---- failing
    fails_in_step : (c : Committer D) (s : State) (flight : Option Batch) (failed : Bool) → IsInStep c s flight failed → IsInStep c s flight true
    fails_in_step c s None failed h = h
    fails_in_step c s (Some b) failed h =
        ⊎_elim
        (λ waits. inl waits)
        (λ late. inr (⊎_elim
        (λ (w : IsUnderWay c s b failed). inl (record {
          none = w.none;
          receipt = w.receipt;
          loaded = w.loaded;
          phase = ⊎_elim (λ busy. inl busy) (λ more. inr (⊎_elim (λ done. inl done) (λ is. inr (is.0, refl)) more)) w.phase;
          table = w.table;
          next = w.next;
        }))
        (λ durable. inr durable)
        late))
        h

    pub fails : Went steps.Fail → (new ≡ record old { core = record old.core { failed = true } }) × IsSafe disk old new
    fails h =
        let same : new ≡ record old { core = record old.core { failed = true } } = λ i. record old { core = h.does.0.1 i; committer = h.does.1 i } in (
          same,
          safe_by steps.Fail h (λ w. subst (λ (d : DurableCore D). IsWhole disk d) (sym same)
              (record { inside = w.inside; in_step = fails_in_step old.committer old.core.settled (flight_of old.core) old.core.failed w.in_step })),
        )

    pub same_taken : (given : Option Batch) (told : Result (Option (Result (Unit {0}) StoreFault)) AllocError) → Went (steps.Take given told)
        → device_of new ≡ device_of old
    same_taken given (Ok (Some answer)) h = h.does.device
    same_taken given (Ok None) h = ap (λ (c : Committer D). flusher_device (flusher_in c)) h.does.3
    same_taken given (Err short) h = ap (λ (c : Committer D). flusher_device (flusher_in c)) h.does.3

    pub same_published : (receipt : Option Receipt) (told : Option (Result (Unit {0}) PublishFault)) → Went (steps.Publish receipt told)
        → device_of new ≡ device_of old
    same_published (Some receipt) (Some answer) h = h.does.device
    same_published None None h = ap (λ (c : Committer D). flusher_device (flusher_in c)) h.does.2
    same_published (Some receipt) None h = absurd h.does
    same_published None (Some answer) h = absurd h.does

    -- ---- made
    taken_not_called : (told : Result (Option (Result (Unit {0}) StoreFault)) AllocError) → told_taken told ≡ Called (Err store_fault.Device) → ⊥
    taken_not_called (Ok (Some answer)) is = cc
    taken_not_called (Ok None) is = cc
    taken_not_called (Err short) is = cc

    published_not_called : (told : Option (Result (Unit {0}) PublishFault)) → told_published told ≡ Called (Err store_fault.Device) → ⊥
    published_not_called (Some answer) is = cc
    published_not_called None is = cc

    pub takes_made : (given : Option Batch) (told : Result (Option (Result (Unit {0}) StoreFault)) AllocError) → Went (steps.Take given told)
        → IsStep Take (told_taken told) old new × IsStepMade disk (told_taken told) old new
    takes_made given told h =
        let both = takes given told h in
        (both.0, made_beside disk (told_taken told) old new (same_taken given told h) (taken_not_called told) both.1)

    pub publishes_made : (receipt : Option Receipt) (told : Option (Result (Unit {0}) PublishFault)) → Went (steps.Publish receipt told)
        → IsStep Publish (told_published told) old new × IsStepMade disk (told_published told) old new
    publishes_made receipt told h =
        let both = publishes receipt told h in
        (both.0, made_beside disk (told_published told) old new (same_published receipt told h) (published_not_called told) both.1)

  -- ---- beside the same committer
  module _ (old : DurableCore D) (core : CoreState) (here : IsSafe disk old old) where
    abbrev beside : DurableCore D
    beside = record old { core = core }

    -- a request is answered
    pub accepts : (i : Input) (m : Moment) (told : Reception) (answer : CoreAccepted) → told ≡ reception_of answer → exactly (SubmitTells i m (Ok answer)) old.core core
        → IsStep (Accept i m) (Accepted told) old beside × IsSafe disk old beside
    accepts i m told answer is h =
        let ok = h.1.1 in
        let taken_in = accepted_is i m told answer old core is h.1.0 h.1.2 ok in
        let done = accept_request old beside i m told h.0 taken_in in (
          accept_step old beside i m told h.0 taken_in,
          safe_beside disk old beside refl (ap (λ (s : CoreState). s.settled) ok ∙ done.settled) (ap flight_of ok ∙ done.flight) (ap (λ (s : CoreState). s.failed) ok ∙ done.failed) here,
        )

    -- a recipient is given what is ready for it
    pub gives_out : (to : Recipient) (outs told : List Out) → told ≡ outs → exactly (CollectTells to (Ok outs)) old.core core
        → IsStep (Hand to) (Handed told) old beside × IsSafe disk old beside
    gives_out to outs told is h =
        let ok = h.1.1 in (
          hand_step old beside to told h.0 (record { outs_are = is ∙ h.1.0; only = λ i. record old { core = ok i } }),
          safe_beside disk old beside refl (ap (λ (s : CoreState). s.settled) ok) (ap flight_of ok) (ap (λ (s : CoreState). s.failed) ok) here,
        )

-- ---- handing out
abbrev pub told_queued : Result ℕ AllocError → Told
told_queued (Ok count) = Queued count
told_queued (Err short) = NoMemory

module _ {D R : Type 0} (disk : DiskModel D) (old : DurableCore D) (core : CoreState) (b : Bssid) (slot after : Slot R)
    (here : IsSafe disk old old) where
  abbrev handed : DurableCore D
  handed = record old { core = core }

  pub hands : (r : Result ℕ AllocError) → IsCore old.core → HandsTo b r old.core core slot after
      → QueuesReady b (told_queued r) old handed slot after × IsStepMade disk (told_queued r) old handed
  hands (Ok count) is h =
      let safe = safe_beside disk old handed refl (ap (λ (s : CoreState). s.settled) h.1) (ap flight_of h.1) (ap (λ (s : CoreState). s.failed) h.1) here in (
        (ready_for (Radio b) old.core, hand_step old handed (Radio b) (ready_for (Radio b) old.core) is (record { outs_are = refl; only = λ i. record old { core = h.1 i } }), h.0, h.2),
        made_beside disk (Queued count) old handed refl (queued_not_called count _) safe,
      )
  hands (Err short) is h =
      let same : handed ≡ old = λ i. record old { core = h.1 i } in (
        (h.0, same, h.2),
        made_unchanged disk NoMemory old handed same (lacking_not_called _) here,
      )
