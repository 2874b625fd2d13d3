-- The lines that `bstr` gives are the lines of a file.
use Rattle.std.proofs.Common.{◌≡◌, ℕ, suc, ◌-◌, ◌&&◌, Bool, true, false, cond, List, [], ◌∷◌, refl, sym, ap, ◌∙◌, arith, take, drop, length}
use Rattle.std.specs.Prelude.{◌==◌, map, nat_lt, slice_index}
use Rattle.std.specs.List.{onto_first}
use Rattle.std.proofs.lemmas.Bool.{lt-ltb}
use Rattle.bstr.specs.Text.{line_len, lines_of, no_cr, without_terminator}
use Rattle.bstr.proofs.lemmas.LineLemmas.{lines-nil, lines-step}
use Rattle.apd_conf.specs.Lines.{lines, is_at_newline}

pos : {X : Type 0} (x : X) (xs : List X) → nat_lt 0 (length (x ∷ xs)) ≡ true
pos x xs = lt-ltb 0 (length (x ∷ xs)) (omega arith)

back : {X : Type 0} (x y : X) (ys : List X) → length (x ∷ y ∷ ys) - 1 ≡ suc (length (y ∷ ys) - 1)
back x y ys = omega arith

last_of : (x y : ℕ) (ys : List ℕ) → slice_index (x ∷ y ∷ ys) (length (x ∷ y ∷ ys) - 1) ≡ slice_index (y ∷ ys) (length (y ∷ ys) - 1)
last_of x y ys = ap (slice_index (x ∷ y ∷ ys)) (back x y ys)

front_of : (x y : ℕ) (ys : List ℕ) → take (length (x ∷ y ∷ ys) - 1) (x ∷ y ∷ ys) ≡ x ∷ take (length (y ∷ ys) - 1) (y ∷ ys)
front_of x y ys = ap (λ n. take n (x ∷ y ∷ ys)) (back x y ys)

onto : (b : ℕ) (t : Bool) (xs ys : List ℕ) → cond t (b ∷ xs) (b ∷ ys) ≡ b ∷ cond t xs ys
onto b true xs ys = refl
onto b false xs ys = refl

ends_by : ℕ → List ℕ → Bool
ends_by e xs = nat_lt 0 (length xs) && slice_index xs (length xs - 1) == e

same_end : (e b c : ℕ) (cs : List ℕ) → ends_by e (b ∷ c ∷ cs) ≡ ends_by e (c ∷ cs)
unfolding ends_by
same_end e b c cs = λ i. (pos b (c ∷ cs) ∙ sym (pos c cs)) i && last_of b c cs i == e

no_cr-cons : (b c : ℕ) (cs : List ℕ) → no_cr (b ∷ c ∷ cs) ≡ b ∷ no_cr (c ∷ cs)
unfolding ends_by
no_cr-cons b c cs =
    (λ i. cond (same_end 13 b c cs i) (front_of b c cs i) (b ∷ c ∷ cs)) ∙ onto b (ends_by 13 (c ∷ cs)) (take (length (c ∷ cs) - 1) (c ∷ cs)) (c ∷ cs)

front_no_cr : (b c d : ℕ) (ds : List ℕ) → no_cr (take (length (b ∷ c ∷ d ∷ ds) - 1) (b ∷ c ∷ d ∷ ds)) ≡ b ∷ no_cr (take (length (c ∷ d ∷ ds) - 1) (c ∷ d ∷ ds))
front_no_cr b c d ds =
    ap no_cr (front_of b c (d ∷ ds) ∙ ap (λ xs. b ∷ xs) (front_of c d ds)) ∙ no_cr-cons b c (take (length (d ∷ ds) - 1) (d ∷ ds)) ∙ ap (λ xs. b ∷ no_cr xs) (sym (front_of c d ds))

-- a byte in front of a line that does not begin with its newline
with_front : (b c : ℕ) (cs : List ℕ) → (c == 10) ≡ false → without_terminator (b ∷ c ∷ cs) ≡ b ∷ without_terminator (c ∷ cs)
unfolding ends_by
with_front b c [] other =
    ap (λ t. cond t (no_cr (b ∷ [])) (b ∷ c ∷ [])) other ∙ sym (ap (λ t. b ∷ cond t (no_cr []) (c ∷ [])) other)
with_front b c (d ∷ ds) other =
    (λ i. cond (same_end 10 b c (d ∷ ds) i) (front_no_cr b c d ds i) (b ∷ c ∷ d ∷ ds))
    ∙ onto b (ends_by 10 (c ∷ d ∷ ds)) (no_cr (take (length (c ∷ d ∷ ds) - 1) (c ∷ d ∷ ds))) (c ∷ d ∷ ds)

first_of : ℕ → Bool → ℕ → List ℕ → List ℕ
first_of c at n cs = take (cond at 1 (suc n)) (c ∷ cs)

alone : (b c : ℕ) → (c == 10) ≡ true → without_terminator (b ∷ c ∷ []) ≡ cond (b == 13 && true) (without_terminator (c ∷ [])) (b ∷ without_terminator (c ∷ []))
alone b c is =
    let gone : without_terminator (c ∷ []) ≡ [] = ap (λ t. cond t (no_cr []) (c ∷ [])) is in
    ap (λ t. cond t (no_cr (b ∷ [])) (b ∷ c ∷ [])) is
    ∙ elim (b == 13) as (λ t. cond t [] (b ∷ []) ≡ cond (t && true) [] (b ∷ [])) [ true ↦ refl | false ↦ refl ]
    ∙ (λ i. cond (b == 13 && true) (sym gone i) (b ∷ sym gone i))

kept : (b : ℕ) (t : Bool) (xs : List ℕ) → b ∷ xs ≡ cond (t && false) xs (b ∷ xs)
kept b true xs = refl
kept b false xs = refl

-- a byte in front of the first line
first_line : (b c n : ℕ) (cs : List ℕ) (at : Bool) → (c == 10) ≡ at
    → without_terminator (b ∷ first_of c at n cs) ≡ cond (b == 13 && at) (without_terminator (first_of c at n cs)) (b ∷ without_terminator (first_of c at n cs))
unfolding first_of
first_line b c n cs true is = alone b c is
first_line b c n cs false is = with_front b c (take n cs) is ∙ kept b (b == 13) (without_terminator (c ∷ take n cs))

rest_after : ℕ → Bool → ℕ → List ℕ → List ℕ
rest_after c at n cs = drop (cond at 1 (suc n)) (c ∷ cs)

pulled : (b : ℕ) (t : Bool) (x : List ℕ) (rest all : List (List ℕ)) → all ≡ x ∷ rest → cond t x (b ∷ x) ∷ rest ≡ cond t all (onto_first b all)
pulled b true x rest all e = sym e
pulled b false x rest all e = sym (ap (onto_first b) e)

step : (b : ℕ) (bs : List ℕ) → map without_terminator (lines_of bs) ≡ lines bs → (b == 10) ≡ false
    → without_terminator (b ∷ take (line_len bs) bs) ∷ map without_terminator (lines_of (drop (line_len bs) bs)) ≡ cond (b == 13 && is_at_newline bs) (lines bs) (onto_first b (lines bs))
unfolding lines line_len first_of
step b [] same other =
    (λ i. ap (λ t. cond t (no_cr []) (b ∷ [])) other i ∷ map without_terminator (lines-nil i))
    ∙ elim (b == 13) as (λ t. (b ∷ []) ∷ [] ≡ cond (t && false) [] ((b ∷ []) ∷ [])) [ true ↦ refl | false ↦ refl ]
step b (c ∷ cs) same other =
    let first = take (line_len (c ∷ cs)) (c ∷ cs) in
    let rest = map without_terminator (lines_of (drop (line_len (c ∷ cs)) (c ∷ cs))) in
    let all : lines (c ∷ cs) ≡ without_terminator first ∷ rest = sym same ∙ ap (map without_terminator) (lines-step (c ∷ cs) (omega arith)) in
    ap (λ x. x ∷ rest) (first_line b c (line_len cs) cs (c == 10) refl) ∙ pulled b (b == 13 && c == 10) (without_terminator first) rest (lines (c ∷ cs)) all

pub lines-of : (bs : List ℕ) → map without_terminator (lines_of bs) ≡ lines bs
unfolding lines line_len
lines-of [] = ap (map without_terminator) lines-nil
lines-of (b ∷ bs) =
    ap (map without_terminator) (lines-step (b ∷ bs) (omega arith))
    ∙ elim (b == 10) as (λ t. (b == 10) ≡ t → without_terminator (take (cond t 1 (suc (line_len bs))) (b ∷ bs)) ∷ map without_terminator (lines_of (drop (cond t 1 (suc (line_len bs))) (b ∷ bs)))
    ≡ cond t ([] ∷ lines bs) (cond (b == 13 && is_at_newline bs) (lines bs) (onto_first b (lines bs)))) [
      | true ↦ λ is i. ap (λ t. cond t (no_cr []) (b ∷ [])) is i ∷ lines-of bs i
      | false ↦ λ other. step b bs (lines-of bs) other
    ] refl
