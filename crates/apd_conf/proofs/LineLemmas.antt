-- Going over the lines of a file one by one.
use Rattle.std.proofs.Common.{◌≡◌, ℕ, zero, suc, ◌+◌, ◌≤◌, List, [], ◌∷◌, ◌++◌, Some, None, refl, ap, arith, take, drop, length}
use Rattle.std.specs.Prelude.{slice_get}

-- an item that stands behind the first n
pub record IsNext {X : Type 0} (all : List X) (n : ℕ) (x : X) (rest : List X) : Type 0 where
  pub there : slice_get all n ≡ Some x
  pub behind : drop (n + 1) all ≡ rest
  pub more : take (n + 1) all ≡ take n all ++ x ∷ []
  pub few : n + 1 ≤ length all

one_more : (n : ℕ) → suc n + 1 ≡ suc (n + 1)
one_more n = omega arith

pub next_of : {X : Type 0} (all : List X) (n : ℕ) (x : X) (rest : List X) → n ≤ length all → drop n all ≡ x ∷ rest → IsNext all n x rest
next_of [] zero x rest le e = cc
next_of [] (suc n) x rest le e = cc
next_of (y ∷ ys) zero x rest le e =
    let head : y ≡ x = cc in
    let tail : ys ≡ rest = cc in
    record { there = ap Some head; behind = tail; more = ap (λ z. z ∷ []) head; few = omega arith }
next_of (y ∷ ys) (suc n) x rest le e =
    let h : IsNext ys n x rest = next_of ys n x rest (omega arith) e in
    let small : n + 1 ≤ length ys = h.few in
    record {
      there = h.there;
      behind = rw (one_more n) h.behind;
      more = rw (one_more n) (ap (λ l. y ∷ l) h.more);
      few = omega arith;
    }

pub at_end : {X : Type 0} (all : List X) (n : ℕ) → n ≤ length all → drop n all ≡ [] → n ≡ length all
at_end [] zero le e = refl
at_end [] (suc n) le e = absurd (omega arith)
at_end (y ∷ ys) zero le e = cc
at_end (y ∷ ys) (suc n) le e = ap suc (at_end ys n (omega arith) e)

pub behind_none : {X : Type 0} (all : List X) (n : ℕ) → length all ≤ n → slice_get all n ≡ None
behind_none [] n le = refl
behind_none (y ∷ ys) zero le = absurd (omega arith)
behind_none (y ∷ ys) (suc n) le = behind_none ys n (omega arith)
