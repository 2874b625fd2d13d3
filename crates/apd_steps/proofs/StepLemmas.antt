-- What the steps of a core and its committer do.
use denote.Enum.Bare.{sameb}
use Rattle.std.proofs.Common.{◌≡◌, ◌⊎◌, inl, ⊎_elim, true, false, Option, Some, None, Result, Ok, Err, refl, sym, ap, subst, ◌∙◌}
use Rattle.std.specs.Prelude.{◌↔◌, IfSome, IsNone, is_some}
use Rattle.std.proofs.lemmas.Bool.{false≢true}
use Rattle.apd_disk.specs.Disk.{DiskModel, LeavesOnly}
use Rattle.apd_journal.specs.declared.batch.Batch.{Batch}
use Rattle.apd_store.specs.contracts.fault.StoreFault.{the_type}
use Rattle.apd_store.specs.declared.fault.StoreFault.{StoreFault}
use Rattle.apd_store.specs.declared.fault.StoreFault.TheVariants as store_fault
use Rattle.apd_flusher.specs.Committing.{ShowsEither}
use Rattle.apd_flusher.specs.Handing.{HasNoneToLoad, IsLoadGiven, IsTurnMade, Keeps, TurnTells}
use Rattle.apd_flusher.specs.Outside.{flusher_device, flusher_of, phase_of}
use Rattle.apd_flusher.specs.declared.committer.Committer.{Committer}
use Rattle.apd_flusher.specs.declared.flusher.Flusher.{Flusher}
use Rattle.apd_flusher.specs.declared.phase.Phase.{Phase}
use Rattle.apd_flusher.specs.declared.phase.Phase.TheVariants as phase
use Rattle.apd_steps.specs.Calls.{FailTells, Made, TakeTells}
use Rattle.apd_steps.specs.Committing.{CallTells, CoreGoes, IsCalled, IsGivenBy, SameDevice, Takes}
use Rattle.apd_steps.specs.Run.{Does, IsStep, KeepsAtTake, KeepsWhole, Step, StopsSafely}

module _ {D : Type 0} (disk : DiskModel D) where
  pub keeps_all : (c : Committer D) → Keeps disk c c
  keeps_all c = record { inside = λ is. is; honest = (λ is. is, λ is. is); imaged = λ is. is }

  pub keeps_on : (a b c : Committer D) → Keeps disk a b → Keeps disk b c → Keeps disk a c
  keeps_on a b c first next =
      record {
        inside = λ is. next.inside (first.inside is);
        honest = (λ is. next.honest.0 (first.honest.0 is), λ is. first.honest.1 (next.honest.1 is));
        imaged = λ is. next.imaged (first.imaged is);
      }

  -- a step that makes no call of the device
  pub without_a_call : {A : Type 0} (made : Made A) (step : Step) (core after : A) (old new : Committer D)
      → Does made step core after old new → KeepsWhole disk step old new → Keeps disk old new
      → StopsSafely disk old (flusher_device (flusher_of old)) → SameDevice old new → IsStep disk made step core after old new
  without_a_call made step core after old new does whole keeps before same = record {
    does = does;
    whole = whole;
    keeps = keeps;
    before = before;
    since = λ s flight failed is imaged.
        subst (λ (d : D). LeavesOnly disk (flusher_device (flusher_of old)) d (ShowsEither s flight)) (sym same) (before s flight failed is imaged);
  }

-- ---- taking
pub takes : {A D : Type 0} (made : Made A) (answer : Option (Result (Unit {0}) StoreFault)) (given : Option Batch) (core after : A)
    (old new : Committer D) → IsGivenBy made given core after old → IfSome answer (λ answer. IsLoadGiven answer given old new)
    → (IsNone answer → HasNoneToLoad given old × (new ≡ old)) → SameDevice old new → Takes made given (Ok answer) core after old new
takes made (Some answer) given core after old new from load none same = record { from = from; load = load; device = same }
takes made None given core after old new from load none same =
    let h = none refl in
    ⊎_elim
    (λ waits. absurd (false≢true (sym (ap is_some h.0.0) ∙ waits.0)))
    (λ gives. (h.0.1, gives.0, subst (λ (z : Option Batch). made (TakeTells (Ok z)) core after) h.0.1 gives.1, h.1))
    from

-- nothing was handed in
pub hands_none : {D : Type 0} (disk : DiskModel D) (c : Committer D) → KeepsAtTake disk None c c
hands_none disk c = record { waits = λ s flight failed none is. is; handed_in = λ s batch failed some. absurd (let no : ⊥ = cc in no) }

-- ---- calling
module _ {A : Type 0} (made : Made A) (core after : A) where
  pub fails_so : (fault : StoreFault) → sameb the_type fault store_fault.Device ≡ true → made FailTells core after
      → CoreGoes made (Err fault) core after
  fails_so store_fault.Device is fails = fails
  fails_so fault is fails = absurd (false≢true is)

  pub rests_so : (fault : StoreFault) → sameb the_type fault store_fault.Device ≡ false → after ≡ core
      → CoreGoes made (Err fault) core after
  rests_so store_fault.Device is same = absurd (false≢true (sym is))
  rests_so fault is same = same

ok_not_err : {A E : Type 0} (x : A) (e : E) → ◌≡◌ {A = Result A E} (Ok x) (Err e) → ⊥
ok_not_err x e same = cc

err_same : {A E : Type 0} (e f : E) → ◌≡◌ {A = Result A E} (Err e) (Err f) → e ≡ f
err_same e f same = cc

called_done : {P N : Type 0} (p : Phase) → p ≡ phase.Busy → P ↔ (N ⊎ (p ≡ phase.Done)) → P ↔ N
called_done p busy done = ((λ h. ⊎_elim (λ n. n) (λ was. (let none : ⊥ = cc in absurd none)) (done.0 h)), (λ n. done.1 (inl n)))

module _ {D : Type 0} (disk : DiskModel D) where
  call_tells : (answer : Result (Unit {0}) StoreFault) (f g : Flusher D) → TurnTells disk answer f g
      → (phase_of f ≡ phase.Busy) ⊎ (phase_of f ≡ phase.Failed) → (phase_of f ≡ phase.Failed → answer ≡ Err store_fault.Failed)
      → CallTells answer f g
  call_tells (Ok x) f g t some fails =
      let busy : phase_of f ≡ phase.Busy = ⊎_elim (λ busy. busy) (λ was. absurd (ok_not_err x _ (fails was))) some in
      (t.step busy, called_done (phase_of f) busy t.done, t.busy busy)
  call_tells (Err fault) f g t some fails = (t.phase, (λ was. err_same fault _ (fails was)), t.few)

  pub called : {A : Type 0} (made : Made A) (answer : Result (Unit {0}) StoreFault) (core after : A) (old new : Committer D)
      → (phase_of (flusher_of old) ≡ phase.Busy) ⊎ (phase_of (flusher_of old) ≡ phase.Failed) → IsTurnMade disk answer old new
      → CoreGoes made answer core after → IsCalled made answer core after old new
  called made answer core after old new some turn goes = record {
    some_call = some;
    core_goes = goes;
    tells = call_tells answer (flusher_of old) (flusher_of new) turn.tells some turn.failed;
    batch_is = turn.turn.batch_is;
    table = turn.turn.table;
    next = turn.turn.next;
    batch = turn.batch;
    receipt = turn.receipt;
  }
