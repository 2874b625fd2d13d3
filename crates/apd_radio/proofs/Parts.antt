-- The parts of a station's text: an address of 17 bytes, a blank and digits.
use Rattle.std.proofs.Common.{◌≡◌, ℕ, ◌+◌, ◌-◌, ◌<◌, List, ◌∷◌, ◌++◌, length, take, drop, slice_index, length-append, arith, ap, sym, ◌∙◌}
use Rattle.std.proofs.lemmas.List.{take_at, take_rest}
use Rattle.std.proofs.Math.Seq.{drop-append-add, get_or-append_seam}

pub first_is : (text first digits : List ℕ) → text ≡ first ++ 32 ∷ digits → length first ≡ 17 → take 17 text ≡ first
first_is text first digits e n = ap (take 17) e ∙ take_at first (32 ∷ digits) 17 n

pub digits_are : (text first digits : List ℕ) → text ≡ first ++ 32 ∷ digits → length first ≡ 17 → take (length text - 18) (drop 18 text) ≡ digits
digits_are text first digits e n = take_rest text 18 ∙ ap (drop 18) e ∙ ap (λ k. drop (k + 1) (first ++ 32 ∷ digits)) (sym n) ∙ drop-append-add first (32 ∷ digits) 1

pub longer : (text first digits : List ℕ) → text ≡ first ++ 32 ∷ digits → length first ≡ 17 → 17 < length text
longer text first digits e n = let whole : length text ≡ length first + length (32 ∷ digits) = ap length e ∙ length-append first (32 ∷ digits) in omega arith

pub blank_at : (text first digits : List ℕ) → text ≡ first ++ 32 ∷ digits → length first ≡ 17 → slice_index text 17 ≡ 32
blank_at text first digits e n = ap (λ k. slice_index text k) (sym n) ∙ ap (λ xs. slice_index xs (length first)) e ∙ get_or-append_seam first 32 digits 0
