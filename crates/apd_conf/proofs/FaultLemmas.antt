-- Which faults are told, where want of memory is a fault of its own: a fault that holds, or none.
use Rattle.std.proofs.Common.{◌≡◌, ◌≢◌, ◌↔◌, Result, Ok, Err, sym, ap, subst, ◌∙◌}

pub same_err : {X E : Type 0} (f g : E) → ◌≡◌ {A = Result X E} (Err f) (Err g) → f ≡ g
same_err f g e = cc

pub ok_err : {X E : Type 0} (x : X) (f : E) → ◌≡◌ {A = Result X E} (Ok x) (Err f) → ⊥
ok_err x f e = cc

module _ {X E : Type 0} (memory : E) (Holds : E → Type 0) (r : Result X E) where
  -- of faults of which one holds at most, the one that holds
  pub told : ((f g : E) → Holds f → Holds g → f ≡ g) → (f : E) → Holds f → r ≡ Err f → (fault : E) → fault ≢ memory → (r ≡ Err fault) ↔ Holds fault
  told one f h e fault other = (λ t. subst Holds (same_err f fault (sym e ∙ t)) h, λ k. e ∙ ap Err (one f fault h k))

  -- where none holds, want of memory
  pub lacked : ((f : E) → Holds f → ⊥) → r ≡ Err memory → (fault : E) → fault ≢ memory → (r ≡ Err fault) ↔ Holds fault
  lacked none e fault other = (λ t. absurd (other (same_err fault memory (sym t ∙ e))), λ k. absurd (none fault k))

  -- or no fault
  pub taken : ((f : E) → Holds f → ⊥) → (x : X) → r ≡ Ok x → (fault : E) → fault ≢ memory → (r ≡ Err fault) ↔ Holds fault
  taken none x e fault other = (λ t. absurd (ok_err x fault (sym e ∙ t)), λ k. absurd (none fault k))
