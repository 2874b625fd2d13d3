-- One call of a batch: made, or refused where it lies outside the device.
use Rattle.std.proofs.Common.{◌≡◌, ◌≢◌, ◌≤◌, ◌<◌, ◌⊎◌, inl, inr, ⊎_elim, ℕ, Bool, IsTrue, List, sym, ◌∙◌, subst, arith}
use Rattle.std.specs.Prelude.{◌↔◌, Result, Ok, Err, OnOk, OnErr, IfOk, IsOk, is_ok, MatchResult}
use Rattle.apd_store.proofs.Words.{DiskModel, Done, Elapses, Failed, HasFailed, LeavesOnly, MayShow, Phase, Shows, State, Store, StoreFault, false≢true, one_call, started}
use Rattle.apd_store.specs.declared.fault.StoreFault.TheVariants.{Device, Failed as Refused}

-- what `move_on` ensures
abbrev pub Moved : Result (Unit {0}) StoreFault → Phase → Phase → Result Bool StoreFault → Type 0
Moved made next phase result = MatchResult made (λ _. (phase ≡ next) × IfOk result (λ more. IsTrue more ↔ (next ≢ Done)) × IsOk result) (λ fault. (phase ≡ Failed) × (result ≡ Err fault))

on_ok : (result : Result Bool StoreFault) (Q : Type 0) → Q → OnOk result Q
on_ok (Ok b) Q q = q
on_ok (Err e) Q q = tt

pub move_on_made : (made : Result (Unit {0}) StoreFault) (next phase : Phase) (result : Result Bool StoreFault) (A : Type 0) (P : Phase → Type 0) → Moved made next phase result → OnOk made A → ((made ≢ Err Refused) → A → P next) → OnOk result (P phase)
move_on_made (Ok u) next phase result A P moved a go = on_ok result (P phase) (subst P (sym moved.0) (go (λ e. cc) a))
move_on_made (Err e) next phase result A P moved a go = subst (λ (r : Result Bool StoreFault). OnOk r (P phase)) (sym moved.1) tt

on_is_ok : (result : Result Bool StoreFault) (Q : Type 0) → IsOk result → OnErr result Q
on_is_ok (Ok b) Q ok = tt
on_is_ok (Err e) Q ok = absurd (false≢true ok)

pub move_on_stuck : (made : Result (Unit {0}) StoreFault) (next phase : Phase) (result : Result Bool StoreFault) (Q : Type 0) → Moved made next phase result → (phase ≡ Failed → Q) → OnErr result Q
move_on_stuck (Ok u) next phase result Q moved go = on_is_ok result Q moved.2
move_on_stuck (Err e) next phase result Q moved go = subst (λ (r : Result Bool StoreFault). OnErr r Q) (sym moved.1) (go moved.0)

-- what a sync says where it succeeds, its fault told as the store's
pub synced : {E F : Type 0} (r : Result (Unit {0}) E) (m : Result (Unit {0}) F) (A B : Type 0) → is_ok m ≡ is_ok r → OnOk r A → OnOk r B → OnOk m (A × B)
synced (Ok t) (Ok u) A B same a b = (a, b)
synced (Ok t) (Err e) A B same a b = tt
synced (Err e) (Ok u) A B same a b = absurd (false≢true (sym same))
synced (Err e) (Err f) A B same a b = tt

pub on_ok_as : {T E : Type 0} (r : Result T E) (A B : Type 0) → OnOk r A → (A → B) → OnOk r B
on_ok_as (Ok t) A B a go = go a
on_ok_as (Err e) A B a go = tt

made_or_refused : (made : Result (Unit {0}) StoreFault) → OnErr made ((made ≡ Err Device) ⊎ (made ≡ Err Refused)) → (made ≢ Err Refused) ⊎ (made ≡ Err Refused)
made_or_refused (Ok u) only = inl (λ e. cc)
made_or_refused (Err e) only = ⊎_elim (λ d. inl (λ f. let x : Err Device ≡ Err Refused = sym d ∙ f in cc)) (λ d. inr d) only

module _ {D : Type 0} (disk : DiskModel D) where
  -- a write to a half, which is refused where it lies outside
  pub write_run : (made : Result (Unit {0}) StoreFault) (old new : D) (P : List ℕ → Type 0) → OnErr made ((made ≡ Err Device) ⊎ (made ≡ Err Refused)) → (made ≡ Err Refused → new ≡ old) → disk.goes_on old new
      → (made ≢ Err Refused → Elapses (disk.moment old) (disk.moment new) (disk.left_since old) (disk.left_since new))
      → (made ≢ Err Refused → (c : List ℕ) → disk.left_since new (disk.moment old) c → P c) → ((c : List ℕ) → disk.left_since old (disk.moment old) c → P c) → LeavesOnly disk old new P
  write_run made old new P only same on time during here = ⊎_elim
      (λ was. one_call disk old new P on (time was) (during was))
      (λ was. subst (λ (d : D). LeavesOnly disk old d P) (sym (same was)) (started disk old P here))
      (made_or_refused made only)

  -- what a call that failed leaves
  pub leaves_stuck : (old : D) (new : Store D) (calls : ℕ) (state after : State) → ((t : ℕ) (c : List ℕ) → t ≤ disk.moment new.device → disk.may_leave new.device c → disk.left_since new.device t c)
      → LeavesOnly disk old new.device (MayShow calls state after) → new.phase ≡ Failed → HasFailed disk new state after
  leaves_stuck old new calls state after counts run failed = record {
    phase = failed;
    shows = λ c left. ⊎_elim (λ shown. inl shown) (λ late. inr late.1) (run.each c (counts (disk.moment old) c run.later left));
  }

  pub leaves_stuck_early : (old : D) (new : Store D) (calls : ℕ) (state after : State) → ((t : ℕ) (c : List ℕ) → t ≤ disk.moment new.device → disk.may_leave new.device c → disk.left_since new.device t c)
      → LeavesOnly disk old new.device (MayShow calls state after) → 2 < calls → new.phase ≡ Failed → HasFailed disk new state state
  leaves_stuck_early old new calls state after counts run early failed = record {
    phase = failed;
    shows = λ c left. ⊎_elim (λ shown. inl shown) (λ late. absurd (omega (arith, late.0, early))) (run.each c (counts (disk.moment old) c run.later left));
  }

  -- the same where each image shows one state
  pub leaves_stuck_shown : (old : D) (new : Store D) (state : State) → ((t : ℕ) (c : List ℕ) → t ≤ disk.moment new.device → disk.may_leave new.device c → disk.left_since new.device t c)
      → LeavesOnly disk old new.device (λ c. Shows c state) → new.phase ≡ Failed → HasFailed disk new state state
  leaves_stuck_shown old new state counts run failed = record {
    phase = failed;
    shows = λ c left. inl (run.each c (counts (disk.moment old) c run.later left));
  }
