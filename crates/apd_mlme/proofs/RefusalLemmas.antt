-- Success, and the reasons to refuse.
use Rattle.std.proofs.Common.{◌≡◌, ℕ, ◌<◌, ◌≤◌, Bool, true, false, cond, ◌&&◌, List, [], ◌∷◌, refl, arith}
use Rattle.apd_mlme.proofs.Words.{DeniedListenIntervalTooLarge, DeniedNoMoreStas, NotSupportedAuthAlgorithm, RefusedReasonUnspecified, Status, Success, TransactionSequenceError, first_status, is_success}

-- what is so of the status of each line where it is the first that holds, and of success where none does
abbrev pub ByLines : (Status → Type 0) → List (Bool × Status) → Type 0
ByLines P [] = P Success
ByLines P (line ∷ lines) = (line.0 ≡ true → P line.1) × (line.0 ≡ false → ByLines P lines)

-- is so of the status that is told
pub by_lines : (P : Status → Type 0) (lines : List (Bool × Status)) → ByLines P lines → P (first_status lines)
by_lines P [] cases = cases
by_lines P (line ∷ lines) cases = elim line.0 as (λ t. line.0 ≡ t → P (cond t line.1 (first_status lines))) [
  | true ↦ λ e. cases.0 e
  | false ↦ λ e. by_lines P lines (cases.1 e)
] refl

pub not_and : (a b : Bool) → a ≡ true → (a && b) ≡ false → b ≡ false
not_and true b e f = f
not_and false b e f = cc

-- a limit is passed or not
pub not_less : (m n : ℕ) → m < n → n ≤ m → ⊥
not_less m n more least = omega arith

pub status_success : (status : Status) → is_success status ≡ true → status ≡ Success
status_success Success e = refl
status_success RefusedReasonUnspecified e = cc
status_success NotSupportedAuthAlgorithm e = cc
status_success TransactionSequenceError e = cc
status_success DeniedNoMoreStas e = cc
status_success DeniedListenIntervalTooLarge e = cc
