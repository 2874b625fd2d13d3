-- A write into the middle of an image of three parts, for those who lay out an image, as a store.
use Rattle.std.proofs.Common.{◌≡◌, ◌+◌, ℕ, List, ◌++◌, length, take, drop, sym, ◌∙◌, ap, arith, length-append, length-drop, take-append-drop}
use Rattle.std.proofs.lemmas.List.{append_assoc, take_at, drop_at, drop-drop, length-take-le}
use Rattle.apd_disk.specs.Disk.{with_bytes, TornWithin}

module _ (front middle back : List ℕ) (at n : ℕ) (place : length front ≡ at) (size : length middle ≡ n) where
  whole-take : take at (front ++ (middle ++ back)) ≡ front
  whole-take = take_at front (middle ++ back) at place

  whole-drop : drop (at + n) (front ++ (middle ++ back)) ≡ back
  whole-drop = ap (λ (l : List ℕ). drop (at + n) l) (sym (append_assoc front middle back)) ∙ drop_at (front ++ middle) back (at + n) (omega (arith, length-append front middle, place, size))

  pub whole_length : length (front ++ (middle ++ back)) ≡ at + n + length back
  whole_length = omega (arith, length-append front (middle ++ back), length-append middle back, place, size)

  -- the written bytes stand in the middle
  pub overwritten_parts : (new : List ℕ) → length new ≡ n → with_bytes (front ++ (middle ++ back)) at new ≡ front ++ (new ++ back)
  overwritten_parts new same =
      ap (λ (l : List ℕ). take at (front ++ (middle ++ back)) ++ new ++ l) (ap (λ (k : ℕ). drop (at + k) (front ++ (middle ++ back))) same ∙ whole-drop)
      ∙ ap (λ (l : List ℕ). l ++ new ++ back) whole-take
      ∙ append_assoc front new back

  -- an image torn there has some middle of the same length
  pub torn_parts : (c : List ℕ) → TornWithin at n (front ++ (middle ++ back)) c → (x : List ℕ) × (length x ≡ n) × (c ≡ front ++ (x ++ back))
  torn_parts c torn =
      let x = take n (drop at c) in
      let long : length c ≡ at + n + length back = torn.same_length ∙ whole_length in
      let rest : drop at c ≡ x ++ back = sym (take-append-drop n (drop at c)) ∙ ap (λ (l : List ℕ). x ++ l) (drop-drop n at c ∙ torn.after ∙ whole-drop) in
      let split : c ≡ front ++ (x ++ back) = sym (take-append-drop at c) ∙ ap (λ (l : List ℕ). l ++ drop at c) (torn.before ∙ whole-take) ∙ ap (λ (l : List ℕ). front ++ l) rest in
      (x, length-take-le n (drop at c) (omega (arith, length-drop at c, long)), split)
