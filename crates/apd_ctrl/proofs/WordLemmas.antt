-- Where the first blank of a text stands, and what stands before it and behind it.
use Rattle.std.proofs.Common.{◌≡◌, ℕ, suc, ◌+◌, ◌-◌, ◌<◌, ◌≤◌, true, false, cond, not, ◌++◌, List, [], ◌∷◌, length, Option, Some, None, inl, inr, refl, sym, ap, ◌∙◌, take, drop, length-drop, arith}
use Rattle.std.specs.List.{position, position_or_len}
use Rattle.std.specs.Prelude.{nat_lt}
use Rattle.std.specs.List.{list_all}
use Rattle.std.proofs.lemmas.Bool.{lt-ltb, le-ltb, cases_lt, eqb-true, eq-eqb, ne_eqb, and_parts, both_ways}
use Rattle.std.proofs.lemmas.List.{take_all}
use Rattle.apd_ctrl.specs.Grammar.{after_blank, HasNoBlank}
use Rattle.apd_base.specs.Text.{is_blank}
use Rattle.apd_ctrl.specs.Reading.{word, behind}

one_more : (n : ℕ) → 1 + n ≡ suc n
one_more n = omega arith

-- the word is what stands before the place
word_is : (text : List ℕ) → word text ≡ take (position_or_len is_blank text) text
unfolding word
word_is [] = refl
word_is (b ∷ bs) = elim (is_blank b) as (λ t. is_blank b ≡ t → word (b ∷ bs) ≡ take (position_or_len is_blank (b ∷ bs)) (b ∷ bs)) [
  | true ↦ λ t. rw t refl
  | false ↦ λ t. rw t (ap (λ bs. b ∷ bs) (word_is bs) ∙ ap (λ n. take n (b ∷ bs)) (sym (one_more (position_or_len is_blank bs))))
] refl

behind_some : (text : List ℕ) → position_or_len is_blank text < length text → behind text ≡ Some (drop (suc (position_or_len is_blank text)) text)
unfolding behind
behind_some [] lt = absurd (omega arith)
behind_some (b ∷ bs) lt = elim (is_blank b) as (λ t. is_blank b ≡ t → position_or_len is_blank (b ∷ bs) < length (b ∷ bs) → behind (b ∷ bs) ≡ Some (drop (suc (position_or_len is_blank (b ∷ bs))) (b ∷ bs))) [
  | true ↦ λ t _. rw t refl
  | false ↦ λ t. rw t (λ lt. behind_some bs (omega arith) ∙ ap (λ n. Some (drop n bs)) (sym (one_more (position_or_len is_blank bs))))
] refl lt

behind_none : (text : List ℕ) → length text ≤ position_or_len is_blank text → behind text ≡ None
unfolding behind
behind_none [] le = refl
behind_none (b ∷ bs) le = elim (is_blank b) as (λ t. is_blank b ≡ t → length (b ∷ bs) ≤ position_or_len is_blank (b ∷ bs) → behind (b ∷ bs) ≡ None) [
  | true ↦ λ t. rw t (λ le. absurd (omega arith))
  | false ↦ λ t. rw t (λ le. behind_none bs (omega arith))
] refl le

-- a text without a blank
module _ (text : List ℕ) (none : position is_blank text ≡ None) where
  all_before : length text ≤ position_or_len is_blank text
  all_before = elim (cases_lt (position_or_len is_blank text) (length text)) [
    | inl lt ↦ absurd (let e : cond (nat_lt (position_or_len is_blank text) (length text)) (Some (position_or_len is_blank text)) None ≡ None = none in let t : nat_lt (position_or_len is_blank text) (length text) ≡ true = lt-ltb _ _ lt in cc)
    | inr le ↦ le
  ]

  pub whole_word : text ≡ word text
  whole_word = sym (word_is text ∙ take_all (position_or_len is_blank text) text all_before)

  pub none_behind : None ≡ behind text
  none_behind = sym (behind_none text all_before)

-- a text whose first blank stands at a place
module _ (text : List ℕ) (place : ℕ) (is : position is_blank text ≡ Some place) where
  there : (position_or_len is_blank text < length text) × (position_or_len is_blank text ≡ place)
  there = elim (cases_lt (position_or_len is_blank text) (length text)) [
    | inl lt ↦ (lt, let e : cond (nat_lt (position_or_len is_blank text) (length text)) (Some (position_or_len is_blank text)) None ≡ Some place = is in let t : nat_lt (position_or_len is_blank text) (length text) ≡ true = lt-ltb _ _ lt in cc)
    | inr le ↦ absurd (let e : cond (nat_lt (position_or_len is_blank text) (length text)) (Some (position_or_len is_blank text)) None ≡ Some place = is in let t : nat_lt (position_or_len is_blank text) (length text) ≡ false = le-ltb _ _ le in cc)
  ]

  pub first_word : take place text ≡ word text
  first_word = sym (word_is text ∙ ap (λ n. take n text) there.1)

  pub rest_behind : Some (take (length text - (place + 1)) (drop (place + 1) text)) ≡ behind text
  rest_behind =
      let rest : length (drop (place + 1) text) ≡ length text - (place + 1) = length-drop (place + 1) text in
      let at : suc (position_or_len is_blank text) ≡ place + 1 = (let e = there.1 in omega arith) in
      sym (behind_some text there.0 ∙ ap (λ n. Some (drop n text)) at ∙ ap Some (sym (take_all (length text - (place + 1)) (drop (place + 1) text) (omega arith))))

-- a text is its first word, and a blank with what stands behind it, where there is one
pub text_is : (text : List ℕ) → text ≡ word text ++ after_blank (behind text)
unfolding word behind
text_is [] = refl
text_is (b ∷ bs) = elim (is_blank b) as (λ t. is_blank b ≡ t → b ∷ bs ≡ cond t [] (b ∷ word bs) ++ after_blank (cond t (Some bs) (behind bs))) [
  | true ↦ λ t. ap (λ c. c ∷ bs) (eqb-true b 32 t)
  | false ↦ λ t. ap (λ cs. b ∷ cs) (text_is bs)
] refl

-- the first word has no blank
pub word_free : (text : List ℕ) → HasNoBlank (word text)
unfolding word
word_free [] = tt
word_free (b ∷ bs) = elim (is_blank b) as (λ t. is_blank b ≡ t → HasNoBlank (cond t [] (b ∷ word bs))) [
  | true ↦ λ t. tt
  | false ↦ λ t. (λ e. both_ways (is_blank b) t (eq-eqb b 32 e), word_free bs)
] refl

-- the other way round: a word without a blank, and what stands behind a blank
pub word_joined : (w : List ℕ) (rest : Option (List ℕ)) → HasNoBlank w → word (w ++ after_blank rest) ≡ w
unfolding word
word_joined [] None h = refl
word_joined [] (Some rest) h = refl
word_joined (b ∷ bs) rest h = ap (λ t. cond t [] (b ∷ word (bs ++ after_blank rest))) (ne_eqb b 32 h.0) ∙ ap (λ ws. b ∷ ws) (word_joined bs rest h.1)

pub behind_joined : (w : List ℕ) (rest : Option (List ℕ)) → HasNoBlank w → behind (w ++ after_blank rest) ≡ rest
unfolding behind
behind_joined [] None h = refl
behind_joined [] (Some rest) h = refl
behind_joined (b ∷ bs) rest h = ap (λ t. cond t (Some (bs ++ after_blank rest)) (behind (bs ++ after_blank rest))) (ne_eqb b 32 h.0) ∙ behind_joined bs rest h.1

-- by a test, for words that are spelled out
pub free_from : (w : List ℕ) → list_all (λ b. not (is_blank b)) w ≡ true → HasNoBlank w
free_from [] h = tt
free_from (b ∷ bs) h =
    let parts = and_parts (not (is_blank b)) (list_all (λ b. not (is_blank b)) bs) h in
    (λ e. (let t : is_blank b ≡ true = eq-eqb b 32 e in let f : not (is_blank b) ≡ false = ap not t in both_ways (not (is_blank b)) f parts.0), free_from bs parts.1)
