-- Lists with fronts of one length, and the fields of records at the front of bytes.
use Rattle.std.proofs.Common.{◌≡◌, ℕ, suc, ◌^◌, ◌<◌, ◌≤◌, List, [], ◌∷◌, ◌++◌, length, get_or, take, drop, refl, sym, ap, ◌∙◌, arith, inl, inr}
use Rattle.std.specs.Int.{to_le_bytes, from_le_bytes, w16}
use Rattle.std.specs.List.{AllByRecursion}
use Rattle.std.proofs.lemmas.Bool.{cases_lt}
use Rattle.std.proofs.lemmas.List.{get_or-take, get_or_past, length-take, take-append-drop}
use Rattle.std.proofs.lemmas.Nat.{le_bytes_2, from_le_bytes-to_le_bytes_2}

pub same_front : (a b r s : List ℕ) → length a ≡ length b → a ++ r ≡ b ++ s → (a ≡ b) × (r ≡ s)
same_front [] [] r s n e = (refl, e)
same_front [] (y ∷ b) r s n e = absurd (omega arith)
same_front (x ∷ a) [] r s n e = absurd (omega arith)
same_front (x ∷ a) (y ∷ b) r s n e =
    let first : x ≡ y = cc in
    let behind : a ++ r ≡ b ++ s = cc in
    let rest = same_front a b r s (omega arith) behind in
    (λ i. first i ∷ rest.0 i, rest.1)

pub same_number : (m n : ℕ) (r s : List ℕ) → m < 2 ^ 16 → n < 2 ^ 16 → to_le_bytes w16 m ++ r ≡ to_le_bytes w16 n ++ s → (m ≡ n) × (r ≡ s)
same_number m n r s p q e =
    let both = same_front (to_le_bytes w16 m) (to_le_bytes w16 n) r s refl e in
    (sym (from_le_bytes-to_le_bytes_2 m p) ∙ ap (from_le_bytes w16) both.0 ∙ from_le_bytes-to_le_bytes_2 n q, both.1)

abbrev pub IsBytes : List ℕ → Type 0
IsBytes bytes = (i : ℕ) → get_or bytes i 0 < 256

pub IsBytes-take : (n : ℕ) (bytes : List ℕ) → IsBytes bytes → IsBytes (take n bytes)
IsBytes-take n bytes h i =
    elim (cases_lt i n) [
      | inl lt ↦ rw (get_or-take n bytes i 0 lt) (h i)
      | inr le ↦ rw (get_or_past (take n bytes) i 0 (omega (arith, length-take n bytes))) (omega arith)
    ]

pub all_bytes : (bytes : List ℕ) → IsBytes bytes → AllByRecursion (λ b. b < 256) bytes
all_bytes [] h = tt
all_bytes (b ∷ bytes) h = (h 0, all_bytes bytes (λ i. h (suc i)))

-- six bytes at the front
pub address_range : (bytes front : List ℕ) → IsBytes bytes → front ≡ take 6 bytes → 6 ≤ length bytes → (length front ≡ 6) × AllByRecursion (λ b. b < 256) front
address_range bytes front fits e long = rw e (omega (arith, length-take 6 bytes), all_bytes (take 6 bytes) (IsBytes-take 6 bytes fits))

-- a number at the front
pub number_is : (bytes front rest : List ℕ) (n : ℕ) → IsBytes bytes → front ≡ take 2 bytes → rest ≡ drop 2 bytes → 2 ≤ length bytes → n ≡ from_le_bytes w16 front → bytes ≡ to_le_bytes w16 n ++ rest
number_is bytes front rest n fits e f long value =
    let number : n ≡ from_le_bytes w16 (take 2 bytes) = value ∙ ap (from_le_bytes w16) e in
    let back = le_bytes_2 (take 2 bytes) n (omega (arith, length-take 2 bytes)) (IsBytes-take 2 bytes fits) number in
    sym (take-append-drop 2 bytes) ∙ ap (λ xs. xs ++ drop 2 bytes) (sym back) ∙ ap (λ xs. to_le_bytes w16 n ++ xs) (sym f)
