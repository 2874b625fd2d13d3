-- Room for one more, and one more.
use Rattle.std.proofs.Common.{◌≡◌, ℕ, ◌+◌, ◌≤◌, ◌<◌, Bool, true, false, cond, ◌⊎◌, inl, inr, refl, arith}

pub room_after : (t : Bool) (n most : ℕ) → (t ≡ true) ⊎ (n < most) → n ≤ most → cond t n (n + 1) ≤ most
room_after true n most h le = le
room_after false n most (inl h) le = cc
room_after false n most (inr h) le = omega arith

pub room_before : (t : Bool) (n most : ℕ) → cond t n (n + 1) ≤ most → (t ≡ true) ⊎ (n < most)
room_before true n most h = inl refl
room_before false n most h = inr (omega arith)
