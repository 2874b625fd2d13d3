-- Addresses are ordered as the numbers that their bytes are, the first byte highest.
use Rattle.std.proofs.Common.{◌≡◌, ℕ, ◌+◌, ◌*◌, ◌<◌, List, [], ◌∷◌, Ordering, length, suc, refl, sym, subst, arith}
use Rattle.std.specs.Cmp.{ranks, nat_cmp_is}
use Rattle.std.specs.Cmp.Lexicographic.{slice_cmp}
use Rattle.std.specs.Int.{from_be_bytes, w64}
use Rattle.std.specs.List.{AllByRecursion}
use Rattle.std.specs.Ordering.{MatchOrdering, nat_cmp, ordering_then}
use Rattle.std.specs.Prelude.{slice_index}
use Rattle.apd_base.specs.Addr.{IsAddr}
use Rattle.apd_base.specs.declared.address.Addr.{Addr}
use Rattle.apd_base.proofs.AddrText.{six_of}
use Rattle.std.specs.declared.cmp.Ordering.TheVariants.{Less, Equal, Greater}

-- the answer p on two numbers
abbrev Ranks : Ordering → ℕ → ℕ → Type 0
Ranks p x y = MatchOrdering p (x < y) (x ≡ y) (y < x)

-- a further byte decides where nothing before it does
by_byte : (p r : Ordering) (x y s t : ℕ) → s < 256 → t < 256 → Ranks p x y → Ranks r s t → Ranks (ordering_then p r) (x * 256 + s) (y * 256 + t)
by_byte Less r x y s t u v l m = omega arith
by_byte Greater r x y s t u v l m = omega arith
by_byte Equal Less x y s t u v l m = omega arith
by_byte Equal Equal x y s t u v l m = omega arith
by_byte Equal Greater x y s t u v l m = omega arith

then_next : (p c l : Ordering) → ordering_then (ordering_then p c) l ≡ ordering_then p (ordering_then c l)
then_next Less c l = refl
then_next Equal c l = refl
then_next Greater c l = refl

-- the number whose first digits are x
abbrev number_behind : ℕ → List ℕ → ℕ
number_behind x [] = x
number_behind x (s ∷ ss) = number_behind (x * 256 + s) ss

ranks_behind : (p : Ordering) (x y : ℕ) (ss ts : List ℕ) → length ss ≡ length ts → AllByRecursion (λ b. b < 256) ss → AllByRecursion (λ b. b < 256) ts → Ranks p x y
    → Ranks (ordering_then p (slice_cmp nat_cmp ss ts)) (number_behind x ss) (number_behind y ts)
ranks_behind Less x y [] [] e u v l = l
ranks_behind Equal x y [] [] e u v l = l
ranks_behind Greater x y [] [] e u v l = l
ranks_behind p x y [] (t ∷ ts) e u v l = absurd (omega arith)
ranks_behind p x y (s ∷ ss) [] e u v l = absurd (omega arith)
ranks_behind p x y (s ∷ ss) (t ∷ ts) e u v l =
    subst (λ r. Ranks r (number_behind (x * 256 + s) ss) (number_behind (y * 256 + t) ts)) (then_next p (nat_cmp s t) (slice_cmp nat_cmp ss ts))
    (ranks_behind (ordering_then p (nat_cmp s t)) (x * 256 + s) (y * 256 + t) ss ts (omega arith) u.1 v.1 (by_byte p (nat_cmp s t) x y s t u.0 v.0 l (ranks s t)))

six_number : (a b c d f g : ℕ) → number_behind 0 (a ∷ b ∷ c ∷ d ∷ f ∷ g ∷ []) ≡ from_be_bytes w64 (0 ∷ 0 ∷ a ∷ b ∷ c ∷ d ∷ f ∷ g ∷ [])
six_number a b c d f g = omega arith

number_of_bytes : (bytes : List ℕ) → length bytes ≡ 6 → number_behind 0 bytes ≡ from_be_bytes w64 (0 ∷ 0 ∷ bytes)
number_of_bytes bytes e =
    subst (λ (l : List ℕ). number_behind 0 l ≡ from_be_bytes w64 (0 ∷ 0 ∷ l)) (sym (six_of bytes e))
    (six_number (slice_index bytes 0) (slice_index bytes 1) (slice_index bytes 2) (slice_index bytes 3) (slice_index bytes 4) (slice_index bytes 5))

pub all_bytes : (bytes : List ℕ) → ((i : ℕ) → slice_index bytes i < 256) → AllByRecursion (λ b. b < 256) bytes
all_bytes [] h = tt
all_bytes (b ∷ bytes) h = (h 0, all_bytes bytes (λ i. h (suc i)))

-- addresses are ordered as their numbers
pub ranked_by_number : (a b : Addr) → IsAddr a → IsAddr b → nat_cmp (from_be_bytes w64 (0 ∷ 0 ∷ a.0)) (from_be_bytes w64 (0 ∷ 0 ∷ b.0)) ≡ slice_cmp nat_cmp a.0 b.0
ranked_by_number a b u v =
    let ss = a.0 in
    let ts = b.0 in
    let m = from_be_bytes w64 (0 ∷ 0 ∷ ss) in
    let n = from_be_bytes w64 (0 ∷ 0 ∷ ts) in
    let ranked : Ranks (slice_cmp nat_cmp ss ts) m n = subst (Ranks (slice_cmp nat_cmp ss ts) m) (number_of_bytes ts v.0) (subst (λ k. Ranks (slice_cmp nat_cmp ss ts) k (number_behind 0 ts)) (number_of_bytes ss u.0) (ranks_behind Equal 0 0 ss ts (omega arith) u.1 v.1 refl)) in
    sym (nat_cmp_is m n (slice_cmp nat_cmp ss ts) ranked)
