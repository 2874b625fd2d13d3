-- What is left where a store is made of a device that was read before.
use Rattle.std.proofs.Common.{◌≡◌, ◌≤◌, ◌+◌, ◌⊎◌, ℕ, List, Option, Result, Ok, Err, IfOk, OnOk, ⊎_elim, inl, inr, sym, ◌∙◌, arith}
use Rattle.std.specs.Prelude.{codes}
use Rattle.std.specs.Io.KnownBytes.{Appends}
use Rattle.apd_base.specs.State.{State, empty_state}
use Rattle.apd_disk.specs.Disk.{DiskModel, LeavesOnly, Within}
use Rattle.apd_disk.proofs.Moments.{then_run, weaker}
use Rattle.apd_store.specs.Image.{IsOverMark, MayBeMade, Shows, ShowsOld, marks}
use Rattle.apd_maintenance.specs.Formatting.{IsNewStore}
use Rattle.apd_maintenance.specs.Missing.{AreZeros, IsMadeOfZeros, IsThere}

part : (S a b : List ℕ → Type 0) (c : List ℕ) → Within a b → a c ⊎ IsOverMark marks a c ⊎ S c → b c ⊎ IsOverMark marks b c ⊎ S c
part S a b c within left =
    ⊎_elim (λ was. inl (within c was))
    (λ rest. ⊎_elim (λ over. inr (inl (over.0, within over.0 over.1, over.2, over.3))) (λ shown. inr (inr shown)) rest) left

-- of a device of which less could be left, less may be
pub made_within : (state : State) (a b : List ℕ → Type 0) (c : List ℕ) → Within a b → MayBeMade state a c → MayBeMade state b c
made_within state a b c within made = (
  λ marked. part (λ i. Shows i state) a b c within (made.0 marked),
  λ marked. part (λ i. ShowsOld i state) a b c within (made.1 marked),
)

-- what could be left before may be
pub before_made : (state : State) (before : List ℕ → Type 0) (c : List ℕ) → before c → MayBeMade state before c
before_made state before c was = (λ _. inl was, λ _. inl was)

module _ {D : Type 0} (disk : DiskModel D) (device : D) where
  -- a device that was read, and made a store
  pub made_of_zeros : (read made : D) → disk.size read ≡ disk.size device → disk.failed read ≡ disk.failed device → (disk.honest read → disk.honest device)
      → (disk.honest read → (t : ℕ) (c : List ℕ) → t ≤ disk.moment read → disk.may_leave read c → disk.left_since read t c)
      → (disk.honest read → AreZeros (disk.reads device)) → (disk.honest device → LeavesOnly disk device read (disk.may_leave device))
      → (disk.honest device → disk.moment read ≤ disk.moment device + 1) → IsNewStore disk read made → IsMadeOfZeros disk device made
  made_of_zeros read made size failed was counts zeros run calls new =
      let read_so : disk.honest made → disk.honest read = new.was_honest in
      let still : disk.honest made → Within (disk.may_leave read) (disk.may_leave device) =
      λ h c left. (run (was (read_so h))).each c (counts (read_so h) (disk.moment device) c (run (was (read_so h))).later left) in
      record {
        length = sym size ∙ new.length;
        count = new.count ∙ failed;
        was_honest = λ h. was (read_so h);
        zeros = λ h. zeros (read_so h);
        empty = new.empty;
        any_moment = λ h. then_run disk device read made (MayBeMade empty_state (disk.may_leave device))
            (weaker disk device read (disk.may_leave device) (MayBeMade empty_state (disk.may_leave device)) (before_made empty_state (disk.may_leave device)) (run (was (read_so h))))
            (weaker disk read made (MayBeMade empty_state (disk.may_leave read)) (MayBeMade empty_state (disk.may_leave device))
            (λ c. made_within empty_state (disk.may_leave read) (disk.may_leave device) c (still h)) (new.any_moment h));
        calls = λ h.
            let one = calls (was (read_so h)) in
            let nine = new.calls h in
            omega (arith, one, nine);
      }

  -- and is told of
  pub told_of_zeros : {E : Type 0} (read : D) (r : Result D E) (held holds : Option (List ℕ)) → disk.size read ≡ disk.size device → disk.failed read ≡ disk.failed device
      → (disk.honest read → disk.honest device)
      → (disk.honest read → (t : ℕ) (c : List ℕ) → t ≤ disk.moment read → disk.may_leave read c → disk.left_since read t c)
      → (disk.honest read → AreZeros (disk.reads device)) → (disk.honest device → LeavesOnly disk device read (disk.may_leave device))
      → (disk.honest device → disk.moment read ≤ disk.moment device + 1) → IfOk r (λ made. IsNewStore disk read made)
      → OnOk r (Appends held holds (codes "formatted\n")) → IfOk r (λ left. IsThere disk held holds device left)
  told_of_zeros read (Ok made) held holds size failed was counts zeros run calls new printed =
      inr (made_of_zeros read made size failed was counts zeros run calls new, printed)
  told_of_zeros read (Err e) held holds size failed was counts zeros run calls new printed = tt
