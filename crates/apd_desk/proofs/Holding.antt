-- Each step of the committing worker keeps what it took and did not publish.
use Rattle.std.proofs.Common.{◌≡◌, ◌⊎◌, inl, inr, ⊎_elim, List, [], ◌∷◌, ◌++◌, Option, Some, None, Result, Ok, Err, refl, sym, ap, ◌∙◌, append_assoc}
use Rattle.std.proofs.lemmas.List.{append-nil}
use Rattle.apd_disk.specs.Disk.{DiskModel}
use Rattle.apd_journal.specs.declared.batch.Batch.{Batch}
use Rattle.apd_store.specs.Outside.{held_batch, store_batch, phase_of as store_phase}
use Rattle.apd_store.specs.declared.fault.StoreFault.{StoreFault}
use Rattle.apd_store.specs.declared.store.Receipt.{Receipt}
use Rattle.apd_store.specs.declared.store.Store.{Store}
use Rattle.apd_flusher.proofs.Turns.{empty_or_some}
use Rattle.apd_flusher.specs.Handing.{IsLoadGiven, IsTurnMade, TurnTells}
use Rattle.apd_flusher.specs.Outside.{flusher_batch, flusher_of, phase_of, waiting_batch, waiting_receipt}
use Rattle.apd_flusher.specs.Phases.{phase_from}
use Rattle.apd_flusher.specs.Turning.{IsTurn}
use Rattle.apd_flusher.specs.declared.committer.Committer.{Committer}
use Rattle.apd_flusher.specs.declared.flusher.Flusher.{Flusher}
use Rattle.apd_flusher.specs.declared.phase.Phase.{Phase}
use Rattle.apd_flusher.specs.declared.phase.Phase.TheVariants.{Idle, Busy, Done, Failed}
use Rattle.apd_core.specs.declared.publish_fault.PublishFault.{PublishFault}
use Rattle.apd_steps.specs.Calls.{Made, of_some_core}
use Rattle.apd_steps.specs.Committing.{IsPublished}
use Rattle.apd_steps.specs.Run.{AreSteps, Call, Fail, IsRun, IsStep, Publish, Step, Take}
use Rattle.apd_steps.proofs.RunLemmas.{steps_somewhere}
use Rattle.apd_desk.specs.Holding.{IsLed, held_batches, in_flusher, in_receipt, in_waiting, published_batch, published_batches, taken_batch, taken_batches}

-- more behind the last of three
behind : (r f w more : List Batch) → (r ++ (f ++ w)) ++ more ≡ r ++ (f ++ (w ++ more))
behind r f w more = append_assoc r (f ++ w) more ∙ ap (λ (z : List Batch). r ++ z) (append_assoc f w more)

-- the one batch that waited or was handed in
next_batch : (batch : Batch) (given waits : Option Batch) → (waits ≡ None) ⊎ (given ≡ None)
    → (waits ≡ Some batch) ⊎ ((waits ≡ None) × (given ≡ Some batch)) → in_waiting waits ++ in_waiting given ≡ batch ∷ []
next_batch batch given waits alone next =
    ⊎_elim
    (λ is. ⊎_elim
    (λ none. absurd (some_none (sym is ∙ none)))
    (λ none. ap (λ (z : Option Batch). in_waiting z ++ in_waiting given) is ∙ ap (λ (z : Option Batch). (batch ∷ []) ++ in_waiting z) none)
    alone)
    (λ is. ap (λ (z : Option Batch). in_waiting z ++ in_waiting given) is.0 ∙ ap in_waiting is.1)
    next
  where
    some_none : Some batch ≡ None → ⊥
    some_none same = cc

module _ {D : Type 0} where
  held_as : (c : Committer D) (r : Option Receipt) (p : Phase) (x : Batch) (w : Option Batch) → waiting_receipt c ≡ r
      → phase_of (flusher_of c) ≡ p → flusher_batch (flusher_of c) ≡ x → waiting_batch c ≡ w → held_batches c ≡ in_receipt r ++ (in_flusher p x ++ in_waiting w)
  held_as c r p x w receipt phase under_way waits =
      let f = flusher_of c in
      ap (λ (z : Option Receipt). in_receipt z ++ (in_flusher (phase_of f) (flusher_batch f) ++ in_waiting (waiting_batch c))) receipt
      ∙ ap (λ (z : Phase). in_receipt r ++ (in_flusher z (flusher_batch f) ++ in_waiting (waiting_batch c))) phase
      ∙ ap (λ (z : Batch). in_receipt r ++ (in_flusher p z ++ in_waiting (waiting_batch c))) under_way
      ∙ ap (λ (z : Option Batch). in_receipt r ++ (in_flusher p x ++ in_waiting z)) waits

  -- ---- a load
  loaded : (answer : Result (Unit {0}) StoreFault) (given : Option Batch) (a b : Committer D)
      → (waiting_batch a ≡ None) ⊎ (given ≡ None)
      → IsLoadGiven answer given a b → held_batches a ++ in_waiting given ≡ held_batches b
  loaded (Ok _) given a b alone is =
      let r = in_receipt (waiting_receipt a) in
      let f = flusher_of a in
      behind r (in_flusher (phase_of f) (flusher_batch f)) (in_waiting (waiting_batch a)) (in_waiting given)
      ∙ ap (λ (z : List Batch). r ++ (in_flusher (phase_of f) (flusher_batch f) ++ z)) (next_batch is.batch given (waiting_batch a) alone is.next)
      ∙ ap (λ (z : Phase). r ++ (in_flusher z (flusher_batch f) ++ (is.batch ∷ []))) is.tells.was_idle
      ∙ ⊎_elim
      (λ empty. sym (held_as b (waiting_receipt a) Done is.batch None is.receipt (is.tells.done empty) is.tells.batch_is is.waits))
      (λ some. sym (held_as b (waiting_receipt a) Busy is.batch None is.receipt (is.tells.busy some) is.tells.batch_is is.waits))
      (empty_or_some is.batch.changes)
  loaded (Err fault) given a b alone is =
      let r = in_receipt (waiting_receipt a) in
      let f = flusher_of a in
      behind r (in_flusher (phase_of f) (flusher_batch f)) (in_waiting (waiting_batch a)) (in_waiting given)
      ∙ ap (λ (z : List Batch). r ++ (in_flusher (phase_of f) (flusher_batch f) ++ z)) (next_batch is.batch given (waiting_batch a) alone is.next)
      ∙ sym (held_as b (waiting_receipt a) (phase_of f) (flusher_batch f) (Some is.batch) is.receipt
      (ap (λ (z : Store D). phase_from (store_phase z)) is.tells.stays) (ap (λ (z : Store D). store_batch z) is.tells.stays) is.waits)

  -- ---- a turn
  under_way : (disk : DiskModel D) (answer : Result (Unit {0}) StoreFault) (f g : Flusher D)
      → TurnTells disk answer f g → phase_of f ≡ Busy
      → in_flusher (phase_of g) (flusher_batch g) ≡ flusher_batch g ∷ []
  under_way disk (Ok _) f g tells busy =
      ⊎_elim (λ is. ap (λ (z : Phase). in_flusher z (flusher_batch g)) is) (λ is. ap (λ (z : Phase). in_flusher z (flusher_batch g)) is) (tells.busy busy)
  under_way disk (Err fault) f g tells busy = ap (λ (z : Phase). in_flusher z (flusher_batch g)) tells.phase

  turned_list : (disk : DiskModel D) (answer : Result (Unit {0}) StoreFault) (f g : Flusher D) → IsTurn disk f g
      → TurnTells disk answer f g
      → in_flusher (phase_of g) (flusher_batch g) ≡ in_flusher (phase_of f) (flusher_batch f)
  turned_list disk answer f g turn tells = by (phase_of f) refl
    where
      rests : (p : Phase) → phase_of f ≡ p → (p ≡ Busy → ⊥)
          → in_flusher (phase_of g) (flusher_batch g) ≡ in_flusher (phase_of f) (flusher_batch f)
      rests p is other = ap (λ (z : Flusher D). in_flusher (phase_of z) (flusher_batch z)) (turn.rest (λ busy. other (sym is ∙ busy)))

      by : (p : Phase) → phase_of f ≡ p → in_flusher (phase_of g) (flusher_batch g) ≡ in_flusher (phase_of f) (flusher_batch f)
      by Idle is = rests Idle is (λ same. cc)
      by Busy is =
          under_way disk answer f g tells is ∙ ap (λ (z : Batch). z ∷ []) turn.batch_is ∙ sym (ap (λ (z : Phase). in_flusher z (flusher_batch f)) is)
      by Done is = rests Done is (λ same. cc)
      by Failed is = rests Failed is (λ same. cc)

  turned : (disk : DiskModel D) (answer : Result (Unit {0}) StoreFault) (a b : Committer D)
      → IsTurnMade disk answer a b → held_batches a ++ [] ≡ held_batches b
  turned disk answer a b is =
      let f = flusher_of a in
      let g = flusher_of b in
      append-nil (held_batches a)
      ∙ sym (held_as b (waiting_receipt a) (phase_of g) (flusher_batch g) (waiting_batch a) is.receipt refl refl is.batch
      ∙ ap (λ (z : List Batch). in_receipt (waiting_receipt a) ++ (z ++ in_waiting (waiting_batch a))) (turned_list disk answer f g is.turn is.tells))

  -- ---- a receipt
  handed : {A : Type 0} (made : Made A) (receipt : Receipt) (answer : Result (Unit {0}) PublishFault) (core after : A) (a b : Committer D)
      → IsPublished made receipt answer core after a b
      → held_batches a ++ [] ≡ published_batch (Publish (Some receipt) (Some answer)) ++ held_batches b
  handed made receipt (Ok _) core after a b is =
      let f = flusher_of a in
      let own = λ (z : List Batch). held_batch receipt ∷ z in
      append-nil (held_batches a)
      ∙ ⊎_elim
      (λ waits. held_as a (Some receipt) (phase_of f) (flusher_batch f) (waiting_batch a) waits.0 refl refl refl
      ∙ sym (ap own (held_as b None (phase_of f) (flusher_batch f) (waiting_batch a) is.kept (ap phase_of waits.1) (ap flusher_batch waits.1) is.batch)))
      (λ given. held_as a None Done (flusher_batch f) (waiting_batch a) given.0 given.1.done refl refl
      ∙ ap (λ (z : Batch). z ∷ in_waiting (waiting_batch a)) (sym given.1.batch_is)
      ∙ sym (ap own (held_as b None Idle (flusher_batch (flusher_of b)) (waiting_batch a) is.kept given.1.idle refl is.batch)))
      is.next
  handed made receipt (Err fault) core after a b is =
      let f = flusher_of a in
      append-nil (held_batches a)
      ∙ ⊎_elim
      (λ waits. held_as a (Some receipt) (phase_of f) (flusher_batch f) (waiting_batch a) waits.0 refl refl refl
      ∙ sym (held_as b (Some receipt) (phase_of f) (flusher_batch f) (waiting_batch a) is.kept (ap phase_of waits.1) (ap flusher_batch waits.1) is.batch))
      (λ given. held_as a None Done (flusher_batch f) (waiting_batch a) given.0 given.1.done refl refl
      ∙ ap (λ (z : Batch). z ∷ in_waiting (waiting_batch a)) (sym given.1.batch_is)
      ∙ sym (held_as b (Some receipt) Idle (flusher_batch (flusher_of b)) (waiting_batch a) is.kept given.1.idle refl is.batch))
      is.next

  -- ---- any step
  rests : (a b : Committer D) → b ≡ a → held_batches a ++ [] ≡ held_batches b
  rests a b same = append-nil (held_batches a) ∙ ap held_batches (sym same)

  module _ {A : Type 0} (disk : DiskModel D) (made : Made A) where
    step_keeps : (step : Step) (core after : A) (a b : Committer D) → IsStep disk made step core after a b
        → held_batches a ++ taken_batch step ≡ published_batch step ++ held_batches b
    step_keeps (Take given (Ok (Some answer))) core after a b is =
        loaded answer given a b (⊎_elim (λ waits. inr waits.1) (λ gives. inl gives.0) is.does.from) is.does.load
    step_keeps (Take given (Ok None)) core after a b is =
        ap (λ (z : Option Batch). held_batches a ++ in_waiting z) is.does.0 ∙ rests a b is.does.3
    step_keeps (Take given (Err short)) core after a b is =
        ap (λ (z : Option Batch). held_batches a ++ in_waiting z) is.does.0 ∙ rests a b is.does.3
    step_keeps (Call (Some answer)) core after a b is = turned disk answer a b is.whole.turn
    step_keeps (Call None) core after a b is = rests a b is.does.2
    step_keeps (Publish (Some receipt) (Some answer)) core after a b is = handed made receipt answer core after a b is.does
    step_keeps (Publish None None) core after a b is = rests a b is.does.2
    step_keeps (Publish (Some receipt) None) core after a b is = absurd is.does
    step_keeps (Publish None (Some answer)) core after a b is = absurd is.does
    step_keeps Fail core after a b is = rests a b is.does.1

    pub steps_keep : (steps : List Step) (core after : A) (a c : Committer D) → AreSteps disk made steps core after a c
        → held_batches a ++ taken_batches steps ≡ published_batches steps ++ held_batches c
    steps_keep [] core after a c is = rests a c is.1
    steps_keep (step ∷ before) core after a c is =
        let b = is.1 in
        sym (append_assoc (held_batches a) (taken_batches before) (taken_batch step))
        ∙ ap (λ (z : List Batch). z ++ taken_batch step) (steps_keep before core is.0 a b is.2)
        ∙ append_assoc (published_batches before) (held_batches b) (taken_batch step)
        ∙ ap (λ (z : List Batch). published_batches before ++ z) (step_keeps step is.0 after b c is.3)
        ∙ sym (append_assoc (published_batches before) (published_batch step) (held_batches c))

  abbrev pub led : {A : Type 0} (disk : DiskModel D) (core after : A) (old new : Committer D)
      → IsRun disk of_some_core core after old new → IsLed disk old new
  led disk core after old new run = record {
    steps = run.steps;
    are = steps_somewhere disk run.steps core after old new run.are;
    fails = run.fails;
    held = steps_keep disk of_some_core run.steps core after old new run.are;
  }
