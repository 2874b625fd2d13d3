-- The first line of a text, and the lines behind it.
use Rattle.std.proofs.Common.{◌≡◌, ◌≢◌, ℕ, suc, ◌+◌, ◌-◌, true, false, cond, Bool, List, [], ◌∷◌, ◌++◌, length, take, drop, ◌⊎◌, inl, inr, refl, sym, ap, ◌∙◌, arith}
use Rattle.std.specs.Prelude.{◌==◌, nat_eq, codes}
use Rattle.std.specs.List.{onto_first, ends_with}
use lib.Pointwise.{pointwise}
use Rattle.std.specs.Io.BufRead.{take_through, drop_through}
use Rattle.std.proofs.lemmas.List.{append-nil}
use Rattle.std.proofs.lemmas.Bool.{eqb-true, eq-eqb, ne_eqb}
use Rattle.apd_ctrl.specs.Reading.{line_of}
use Rattle.apd_base.specs.Text.{lines}

cond_onto : (t : Bool) (b : ℕ) (cs ds : List ℕ) → cond t (b ∷ cs) (b ∷ ds) ≡ b ∷ cond t cs ds
cond_onto true b cs ds = refl
cond_onto false b cs ds = refl

-- a byte in front of a text that is not empty stands in front of its line
onto_line : (b c : ℕ) (cs : List ℕ) → line_of (b ∷ c ∷ cs) ≡ b ∷ line_of (c ∷ cs)
onto_line b c cs =
    let step : length (b ∷ c ∷ cs) - 1 ≡ suc (length (c ∷ cs) - 1) = omega arith in
    let same : ends_with nat_eq (b ∷ c ∷ cs) (codes "\n") ≡ ends_with nat_eq (c ∷ cs) (codes "\n") = ap (λ n. pointwise nat_eq (codes "\n") (drop n (b ∷ c ∷ cs))) step in
    ap (λ t. cond t (take (length (b ∷ c ∷ cs) - 1) (b ∷ c ∷ cs)) (b ∷ c ∷ cs)) same
    ∙ ap (λ n. cond (ends_with nat_eq (c ∷ cs) (codes "\n")) (take n (b ∷ c ∷ cs)) (b ∷ c ∷ cs)) step
    ∙ cond_onto (ends_with nat_eq (c ∷ cs) (codes "\n")) b (take (length (c ∷ cs) - 1) (c ∷ cs)) (c ∷ cs)

-- one byte that is no newline is a line
single : (b : ℕ) → b ≢ 10 → line_of (b ∷ []) ≡ b ∷ []
single b other = let apart : nat_eq 10 b ≡ false = ne_eqb 10 b (λ e. other (sym e)) in rw apart refl

-- what is read of a text begins as the text does
begins : (c : ℕ) (cs : List ℕ) → (more : List ℕ) × (take_through 10 (c ∷ cs) ≡ c ∷ more)
begins c cs = elim (c == 10) as (λ t. (more : List ℕ) × (cond t (c ∷ []) (c ∷ take_through 10 cs) ≡ c ∷ more)) [
  | true ↦ ([], refl)
  | false ↦ (take_through 10 cs, refl)
]

-- a newline ends a line, and any other byte is in front of the first one
by_newline : (b : ℕ) (bs : List ℕ) → (b ≢ 10 → onto_first b (lines bs) ≡ line_of (b ∷ take_through 10 bs) ∷ lines (drop_through 10 bs))
    → lines (b ∷ bs) ≡ line_of (take_through 10 (b ∷ bs)) ∷ lines (drop_through 10 (b ∷ bs))
unfolding lines
by_newline b bs goes_on = elim (b == 10) as (λ t. b == 10 ≡ t → cond t ([] ∷ lines bs) (onto_first b (lines bs)) ≡ line_of (cond t (b ∷ []) (b ∷ take_through 10 bs)) ∷ lines (cond t bs (drop_through 10 bs))) [
  | true ↦ λ t. ap (λ line. line ∷ lines bs) (sym (ap (λ k. line_of (k ∷ [])) (eqb-true b 10 t)))
  | false ↦ λ t. goes_on (λ e. let is : b == 10 ≡ true = eq-eqb b 10 e in cc)
] refl

onto_text : (b c : ℕ) (cs : List ℕ) → lines (c ∷ cs) ≡ line_of (take_through 10 (c ∷ cs)) ∷ lines (drop_through 10 (c ∷ cs))
    → onto_first b (lines (c ∷ cs)) ≡ line_of (b ∷ take_through 10 (c ∷ cs)) ∷ lines (drop_through 10 (c ∷ cs))
onto_text b c cs rest =
    let (more, is) = begins c cs in
    ap (onto_first b) rest ∙ ap (λ line. line ∷ lines (drop_through 10 (c ∷ cs))) (sym (ap (λ t. line_of (b ∷ t)) is ∙ onto_line b c more ∙ ap (λ t. b ∷ line_of t) (sym is)))

onto_nothing : (b : ℕ) → b ≢ 10 → onto_first b (lines []) ≡ line_of (b ∷ []) ∷ lines []
unfolding lines
onto_nothing b other = ap (λ line. line ∷ []) (sym (single b other))

-- a text that is not empty begins with a line
first_line : (b : ℕ) (bs : List ℕ) → lines (b ∷ bs) ≡ line_of (take_through 10 (b ∷ bs)) ∷ lines (drop_through 10 (b ∷ bs))
first_line b [] = by_newline b [] (onto_nothing b)
first_line b (c ∷ cs) = by_newline b (c ∷ cs) (λ _. onto_text b c cs (first_line c cs))

-- what is read ends at a newline, whatever stands behind the text, or it is all of it
ends_or_all : (bs more : List ℕ) → ((take_through 10 (bs ++ more) ≡ take_through 10 bs) × (drop_through 10 (bs ++ more) ≡ drop_through 10 bs ++ more)) ⊎ (drop_through 10 bs ≡ [])
ends_or_all [] more = inr refl
ends_or_all (b ∷ bs) more = elim (b == 10) as (λ t. ((cond t (b ∷ []) (b ∷ take_through 10 (bs ++ more)) ≡ cond t (b ∷ []) (b ∷ take_through 10 bs)) × (cond t (bs ++ more) (drop_through 10 (bs ++ more)) ≡ cond t bs (drop_through 10 bs) ++ more)) ⊎ (cond t bs (drop_through 10 bs) ≡ [])) [
  | true ↦ inl (refl, refl)
  | false ↦ elim (ends_or_all bs more) [
    | inl cut ↦ inl (ap (λ t. b ∷ t) cut.0, cut.1)
    | inr all ↦ inr all
  ]
]

-- the line that is read of a text is the first one of that with more behind it, where there is none once all is read
pub line_read : (b : ℕ) (bs more : List ℕ) → (drop_through 10 (b ∷ bs) ≡ [] → more ≡ []) → lines ((b ∷ bs) ++ more) ≡ line_of (take_through 10 (b ∷ bs)) ∷ lines (drop_through 10 (b ∷ bs) ++ more)
line_read b bs more none = elim (ends_or_all (b ∷ bs) more) [
  | inl cut ↦
      first_line b (bs ++ more) ∙ ap (λ t. line_of t ∷ lines (drop_through 10 (b ∷ bs ++ more))) cut.0 ∙ ap (λ t. line_of (take_through 10 (b ∷ bs)) ∷ lines t) cut.1
  | inr all ↦
      let nothing = none all in
      ap (λ t. lines ((b ∷ bs) ++ t)) nothing ∙ ap lines (append-nil (b ∷ bs)) ∙ first_line b bs
      ∙ ap (λ t. line_of (take_through 10 (b ∷ bs)) ∷ lines t) (sym (ap (λ t. drop_through 10 (b ∷ bs) ++ t) nothing ∙ append-nil (drop_through 10 (b ∷ bs))))
]

-- what is read and what is left are the whole
pub whole_length : (bs : List ℕ) → length (take_through 10 bs) + length (drop_through 10 bs) ≡ length bs
whole_length [] = refl
whole_length (b ∷ bs) = elim (b == 10) as (λ t. length (cond t (b ∷ []) (b ∷ take_through 10 bs)) + length (cond t bs (drop_through 10 bs)) ≡ suc (length bs)) [
  | true ↦ omega arith
  | false ↦ omega (arith, whole_length bs)
]
