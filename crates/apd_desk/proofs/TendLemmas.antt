-- One step of tending a slot after another.
use Rattle.std.proofs.Common.{◌≡◌, ◌≢◌, ℕ, List, ◌∷◌, Option, Some, Result, Ok, Err, refl, sym, ap, subst, ◌∙◌}
use Rattle.std.specs.declared.alloc.AllocError.{AllocError}
use Rattle.apd_mlme.specs.declared.decision.Out.{Out}
use Rattle.apd_radio.specs.Model.{RadioModel}
use Rattle.apd_slot.specs.Mending.{Begins}
use Rattle.apd_slot.specs.declared.mending.Mending.{Mending}
use Rattle.apd_slot.specs.declared.slot.Slot.{Slot}
use Rattle.apd_slot.specs.declared.slot.SlotFault.{SlotFault}
use Rattle.apd_slot.specs.declared.slot.SlotFault.TheVariants.{WentDown, Lost, NotMine, NoMemory}
use Rattle.apd_steps.specs.Calls.{no_core}
use Rattle.apd_steps.specs.Serving.{Apply, Begin, GoOn, IsApplied, IsFault, IsTended}
use Rattle.apd_steps.proofs.ServingLemmas.{serve_more, serve_one}
use Rattle.apd_slot.specs.Slots.{is_up_of}
use Rattle.apd_desk.specs.declared.idle.Progress.{Progress}
use Rattle.apd_desk.specs.declared.idle.Progress.TheVariants.{Nothing, Short, Made}
use Rattle.apd_desk.specs.Tending.{HasGoneOn, TendsOn}

stays_up : (x : Unit {0}) → ◌≡◌ {A = Result (Unit {0}) SlotFault} (Ok x) (Err WentDown) → ⊥
stays_up x is = cc

module _ {R : Type 0} (radio : RadioModel R) (frames : R → Option (List (List ℕ))) where
  pub begun_first : (old new : Slot R) (mending left : Mending R) → Begins radio frames mending left old new → IsTended radio frames old new mending left
  begun_first old new mending left begins =
      serve_one radio frames no_core Begin tt tt old new mending left tt (λ no. no) (begins, refl)

  abbrev pub gone_on : (progress : Progress) (old new : Slot R) (mending left : Mending R) → HasGoneOn radio frames progress old new mending left
      → IsTended radio frames old new mending left
  gone_on progress old new mending left on =
      serve_one radio frames no_core (GoOn on.0 (is_up_of new)) tt tt old new mending left (λ no. no) (λ no. no) (on.1, refl, refl)

  pub then_on : (progress : Progress) (old mid new : Slot R) (mending then left : Mending R) → HasGoneOn radio frames progress old mid mending then
      → progress ≢ Short → TendsOn radio frames mid new then left → IsTended radio frames old new mending left
  then_on progress old mid new mending then left on well more = more old mending (gone_on progress old mid mending then on) (on.2 well)

  -- the next out was applied; or none was, and none waits or memory is lacking
  pub applied_on : (told : Option (Result (Out × Result (Unit {0}) SlotFault) AllocError)) (old new : Slot R) (mending : Mending R)
      → IsApplied radio frames told old new → ¬ IsFault (Apply told) → TendsOn radio frames old new mending mending
  applied_on told old new mending is well =
      λ from begun run ends. serve_more radio frames no_core (Apply told) tt tt tt from old new begun mending mending run ends well (is, refl, refl)

  -- and where the slot went down at it mending began
  pub faulted_on : (told : Option (Result (Out × Result (Unit {0}) SlotFault) AllocError)) (old mid new : Slot R) (mending left : Mending R)
      → IsApplied radio frames told old mid → Begins radio frames mending left mid new → TendsOn radio frames old new mending left
  faulted_on told old mid new mending left is begins = λ from begun run ends. record {
    steps = Begin ∷ (Apply told ∷ run.steps);
    are = (tt, mid, mending, (tt, old, mending, run.are, (is, refl, refl)), (begins, refl));
    order = (tt, (ends, run.order));
    mended = λ no. no;
  }

  stayed : (out : Out) (answer : Result (Unit {0}) SlotFault) (old mid new : Slot R) (mending left : Mending R)
      → IsApplied radio frames (Some (Ok (out, answer))) old mid → ¬ (answer ≡ Err WentDown) → new ≡ mid → left ≡ mending
      → TendsOn radio frames old new mending left
  stayed out answer old mid new mending left is well same kept =
      subst (λ (z : Slot R). TendsOn radio frames old z mending left) (sym same)
      (subst (λ (z : Mending R). TendsOn radio frames old mid mending z) (sym kept) (applied_on (Some (Ok (out, answer))) old mid mending is well))

  pub answered_on : (out : Out) (answer : Result (Unit {0}) SlotFault) (old mid new : Slot R) (mending left : Mending R)
      → IsApplied radio frames (Some (Ok (out, answer))) old mid → (answer ≢ Err WentDown → new ≡ mid) → (answer ≢ Err WentDown → left ≡ mending)
      → (answer ≡ Err WentDown → Begins radio frames mending left mid new) → TendsOn radio frames old new mending left
  answered_on out (Err WentDown) old mid new mending left is same kept begins = faulted_on (Some (Ok (out, Err WentDown))) old mid new mending left is (begins refl)
  answered_on out (Ok x) old mid new mending left is same kept begins =
      stayed out (Ok x) old mid new mending left is (stays_up x) (same (stays_up x)) (kept (stays_up x))
  answered_on out (Err Lost) old mid new mending left is same kept begins =
      let well : ◌≡◌ {A = Result (Unit {0}) SlotFault} (Err Lost) (Err WentDown) → ⊥ = λ no. cc in
      stayed out (Err Lost) old mid new mending left is well (same well) (kept well)
  answered_on out (Err NotMine) old mid new mending left is same kept begins =
      let well : ◌≡◌ {A = Result (Unit {0}) SlotFault} (Err NotMine) (Err WentDown) → ⊥ = λ no. cc in
      stayed out (Err NotMine) old mid new mending left is well (same well) (kept well)
  answered_on out (Err NoMemory) old mid new mending left is same kept begins =
      let well : ◌≡◌ {A = Result (Unit {0}) SlotFault} (Err NoMemory) (Err WentDown) → ⊥ = λ no. cc in
      stayed out (Err NoMemory) old mid new mending left is well (same well) (kept well)

  -- by what the slot told
  pub told_on : (told : Option (Result (Out × Result (Unit {0}) SlotFault) AllocError)) (answer : Result (Out × Result (Unit {0}) SlotFault) AllocError)
      (applied : Out × Result (Unit {0}) SlotFault) (old mid new : Slot R) (mending left : Mending R) → told ≡ Some answer → answer ≡ Ok applied
      → IsApplied radio frames told old mid → (applied.1 ≢ Err WentDown → new ≡ mid) → (applied.1 ≢ Err WentDown → left ≡ mending)
      → (applied.1 ≡ Err WentDown → Begins radio frames mending left mid new) → TendsOn radio frames old new mending left
  told_on told answer applied old mid new mending left some ok is same kept begins =
      answered_on applied.0 applied.1 old mid new mending left
      (subst (λ (z : Option (Result (Out × Result (Unit {0}) SlotFault) AllocError)). IsApplied radio frames z old mid) (some ∙ ap Some ok) is) same kept begins

  pub short_on : (told : Option (Result (Out × Result (Unit {0}) SlotFault) AllocError)) (answer : Result (Out × Result (Unit {0}) SlotFault) AllocError)
      (short : AllocError) (old new : Slot R) (mending : Mending R) → told ≡ Some answer → answer ≡ Err short → IsApplied radio frames told old new
      → TendsOn radio frames old new mending mending
  short_on told answer short old new mending some err is =
      applied_on (Some (Err short)) old new mending
      (subst (λ (z : Option (Result (Out × Result (Unit {0}) SlotFault) AllocError)). IsApplied radio frames z old new) (some ∙ ap Some err) is) (λ no. no)

-- ---- going on
pub nothing_not_short : Nothing ≡ Short → ⊥
nothing_not_short is = cc

pub made_not_short : Made ≡ Short → ⊥
made_not_short is = cc
