-- The lines of a text.
use Rattle.std.proofs.Common.{◌≡◌, ◌≢◌, ℕ, zero, suc, ◌+◌, ◌-◌, ◌<◌, ◌==◌, false, cond, List, [], ◌∷◌, length, take, drop, get_or, sym, ap, ◌∙◌, arith, add-one}
use Rattle.std.proofs.lemmas.List.{take_rest}
use Rattle.std.proofs.Math.Seq.{drop-length}
use Rattle.std.proofs.lemmas.Bool.{eq-eqb, ne_eqb}
use Rattle.std.specs.List.{onto_first}
use Rattle.apd_base.specs.Text.{lines}

first_line : (xs : List ℕ) (i : ℕ) → i < length xs → get_or xs i 0 ≡ 10 → ((k : ℕ) → k < i → get_or xs k 0 ≢ 10) → lines xs ≡ take i xs ∷ lines (drop (suc i) xs)
unfolding lines
first_line [] i lt here before = absurd (omega arith)
first_line (b ∷ bs) zero lt here before = ap (λ t. cond t ([] ∷ lines bs) (onto_first b (lines bs))) (eq-eqb b 10 here)
first_line (b ∷ bs) (suc i) lt here before =
    ap (λ t. cond t ([] ∷ lines bs) (onto_first b (lines bs))) (ne_eqb b 10 (before 0 (omega arith)))
    ∙ ap (onto_first b) (first_line bs i (omega arith) here (λ k h. before (suc k) (omega arith)))

only_line : (b : ℕ) (bs : List ℕ) → ((k : ℕ) → k < length (b ∷ bs) → get_or (b ∷ bs) k 0 ≢ 10) → lines (b ∷ bs) ≡ (b ∷ bs) ∷ []
unfolding lines
only_line b [] none = ap (λ t. cond t ([] ∷ []) (onto_first b [])) (ne_eqb b 10 (none 0 (omega arith)))
only_line b (d ∷ bs) none =
    ap (λ t. cond t ([] ∷ lines (d ∷ bs)) (onto_first b (lines (d ∷ bs)))) (ne_eqb b 10 (none 0 (omega arith)))
    ∙ ap (onto_first b) (only_line d bs (λ k h. none (suc k) (omega arith)))

-- a text with a newline
pub split_at : (text : List ℕ) (i : ℕ) → i < length text → get_or text i 0 ≡ 10 → ((k : ℕ) → k < i → get_or text k 0 ≢ 10) → lines text ≡ take i text ∷ lines (take (length text - (i + 1)) (drop (i + 1) text))
split_at text i lt here before = rw (take_rest text (i + 1)) (rw add-one (first_line text i lt here before))

-- a text without one
pub not_split : (text : List ℕ) → false ≡ (length text == 0) → ((k : ℕ) → k < length text → get_or text k 0 ≢ 10) → lines text ≡ text ∷ lines (take (length text - length text) (drop (length text) text))
unfolding lines
not_split [] some none = cc
not_split (b ∷ bs) some none = only_line b bs none ∙ ap (λ rest. (b ∷ bs) ∷ lines rest) (sym (take_rest (b ∷ bs) (length (b ∷ bs)) ∙ drop-length (b ∷ bs)))
