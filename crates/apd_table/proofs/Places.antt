-- The places of identifiers in words: what setting or clearing one makes of all.
use Rattle.std.proofs.Common.{◌≡◌, ◌≢◌, ℕ, ◌+◌, ◌-◌, ◌*◌, ◌/◌, ◌%◌, ◌^◌, ◌<◌, ◌≤◌, ◌↔◌, true, false, List, length, replicate, eqb, Option, Some, None, ◌⊎◌, inl, inr, IsTrue, IfSome, IfNone, refl, sym, ap, subst, ◌∙◌, arith, w64}
use Rattle.apd_table.proofs.Words.{AreMarkedAbove, Bssid, IsFirstClear, IsLeastUnmarked, IsTaken, State, bit_at, bit_at-lt, bit_at-zero, bit_at_clear_other, bit_at_clear_same, bit_at_ones, bit_at_ones_above, bit_at_or, bit_at_set_other, bit_at_set_same, bit_not, cases_eq, cases_lt, differ, get_or-replicate, get_or-set_other, get_or-set_same, is_set, length-set, ones_shr, with_aid, with_place, without_aid, without_place}
use Rattle.std.specs.Prelude.{bit_and, bit_or, slice_index, slice_set}
use Rattle.apd_table.specs.Words.{has_bit, AreWords}

-- ---- bits of words are places

word_is : (w i : ℕ) → i < 64 → (64 * w + i) / 64 ≡ w
word_is w i lt = omega arith

bit_is : (w i : ℕ) → i < 64 → (64 * w + i) % 64 ≡ i
bit_is w i lt = omega arith

whole_place : (j : ℕ) → 64 * (j / 64) + j % 64 ≡ j
whole_place j = omega arith

word_below : (j : ℕ) → j < 2048 → j / 64 < 32
word_below j lt = omega arith

bit_below : (j : ℕ) → j % 64 < 64
bit_below j = omega arith

place_below : (w i : ℕ) → w < 32 → i < 64 → 64 * w + i < 2048
place_below w i lw li = omega arith

module _ (s : State) (b : Bssid) (words : List ℕ) where
  -- each place is set exactly where a station has that identifier
  abbrev pub ArePlaces : Type 0
  ArePlaces = (j : ℕ) → j < 2048 → IsTrue (is_set words j) ↔ IsTaken s b j

  pub places_of : AreWords s b words → ArePlaces
  places_of are j lt = subst (λ n. IsTrue (is_set words j) ↔ IsTaken s b n) (whole_place j) (are (j / 64) (j % 64) (word_below j lt) (bit_below j))

  pub words_of : ArePlaces → AreWords s b words
  words_of are w i lw li =
      subst (λ (p : ℕ × ℕ). IsTrue (has_bit words p.0 p.1) ↔ IsTaken s b (64 * w + i)) (λ k. (word_is w i li k, bit_is w i li k)) (are (64 * w + i) (place_below w i lw li))

-- ---- one place more, and one less

other_bit : (i j : ℕ) → j ≢ i → j / 64 ≡ i / 64 → j % 64 ≢ i % 64
other_bit i j ne same e = ne (omega arith)

module _ (words : List ℕ) (many : length words ≡ 32) (i : ℕ) (fits : i < 2048) where
  word_in : i / 64 < length words
  word_in = omega arith

  abbrev word : ℕ
  word = slice_index words (i / 64)

  -- a number written into the word of the place
  module _ (v : ℕ) where
    abbrev written : List ℕ
    written = slice_set words (i / 64) v

    read_same : (j : ℕ) → j / 64 ≡ i / 64 → slice_index written (j / 64) ≡ v
    read_same j same = ap (slice_index written) same ∙ get_or-set_same words (i / 64) v 0 word_in

    read_other : (j : ℕ) → j / 64 ≢ i / 64 → slice_index written (j / 64) ≡ slice_index words (j / 64)
    read_other j ne = get_or-set_other words (i / 64) (j / 64) v 0 ne

    -- its bits but that of the place stay
    kept : ((k : ℕ) → k < 64 → k ≢ i % 64 → bit_at v k ≡ bit_at word k) → (j : ℕ) → j ≢ i → is_set written j ≡ is_set words j
    kept same j ne =
        elim (cases_eq (j / 64) (i / 64)) [
          | inl e ↦
              ap (λ x. eqb (bit_at x (j % 64)) 1) (read_same j e) ∙ ap (λ x. eqb x 1) (same (j % 64) (bit_below j) (other_bit i j ne e))
              ∙ ap (λ w. eqb (bit_at (slice_index words w) (j % 64)) 1) (sym e)
          | inr other ↦ ap (λ x. eqb (bit_at x (j % 64)) 1) (read_other j other)
        ]

  abbrev one : ℕ
  one = 1 * 2 ^ (i % 64) % 2 ^ 64

  pub set_here : is_set (with_place i words) i ≡ true
  set_here = ap (λ x. eqb (bit_at x (i % 64)) 1) (read_same (bit_or word one) i refl) ∙ ap (λ x. eqb x 1) (bit_at_set_same w64 word (i % 64) (bit_below i))

  pub set_elsewhere : (j : ℕ) → j ≢ i → is_set (with_place i words) j ≡ is_set words j
  set_elsewhere = kept (bit_or word one) (λ k lt ne. bit_at_set_other w64 word (i % 64) (bit_below i) k ne)

  pub clear_here : is_set (without_place i words) i ≡ false
  clear_here = ap (λ x. eqb (bit_at x (i % 64)) 1) (read_same (bit_and word (bit_not w64 one)) i refl) ∙ ap (λ x. eqb x 1) (bit_at_clear_same w64 word (i % 64) (bit_below i))

  pub clear_elsewhere : (j : ℕ) → j ≢ i → is_set (without_place i words) j ≡ is_set words j
  clear_elsewhere = kept (bit_and word (bit_not w64 one)) (λ k lt ne. bit_at_clear_other w64 word (i % 64) (bit_below i) k lt ne)

-- ---- the identifier that a row may have

-- identifiers have places
abbrev pub HasPlace : Option ℕ → Type 0
HasPlace o = (i : ℕ) → o ≡ Some i → i < 2048

same_number : (i j : ℕ) → Some i ≡ Some j → j ≡ i
same_number i j e = cc

module _ (words : List ℕ) (many : length words ≡ 32) where
  pub many_with : (o : Option ℕ) → length (with_aid o words) ≡ 32
  many_with None = many
  many_with (Some i) = length-set words (i / 64) _ ∙ many

  pub many_without : (o : Option ℕ) → length (without_aid o words) ≡ 32
  many_without None = many
  many_without (Some i) = length-set words (i / 64) _ ∙ many

  pub with_is : (o : Option ℕ) → HasPlace o → (j : ℕ) → (is_set (with_aid o words) j ≡ true) ↔ ((o ≡ Some j) ⊎ (is_set words j ≡ true))
  with_is None fits j = (λ h. inr h, λ h. elim h [ inl e ↦ cc | inr e ↦ e ])
  with_is (Some i) fits j =
      elim (cases_eq j i) [
        | inl e ↦ (λ h. inl (ap Some (sym e)), λ h. ap (is_set (with_place i words)) e ∙ set_here words many i (fits i refl))
        | inr ne ↦
            let same = set_elsewhere words many i (fits i refl) j ne in
            (λ h. inr (sym same ∙ h), λ h. elim h [ inl e ↦ absurd (ne (same_number i j e)) | inr e ↦ same ∙ e ])
      ]

  pub without_is : (o : Option ℕ) → HasPlace o → (j : ℕ) → (is_set (without_aid o words) j ≡ true) ↔ ((o ≢ Some j) × (is_set words j ≡ true))
  without_is None fits j = (λ h. (λ e. cc, h), λ h. h.1)
  without_is (Some i) fits j =
      elim (cases_eq j i) [
        | inl e ↦ (λ h. differ _ (ap (is_set (without_place i words)) e ∙ clear_here words many i (fits i refl)) h, λ h. absurd (h.0 (ap Some (sym e))))
        | inr ne ↦
            let same = clear_elsewhere words many i (fits i refl) j ne in
            (λ h. (λ e. ne (same_number i j e), sym same ∙ h), λ h. same ∙ h.1)
      ]

-- ---- the first place above one that is not set

-- a word with its lowest bits set, up to one
up_to : (k : ℕ) → k < 64 → (2 ^ 64 - 1) / 2 ^ (63 - k) ≡ 2 ^ (k + 1) - 1
up_to k lt =
    let more : 64 - (63 - k) ≡ k + 1 = omega arith in
    ones_shr 64 (63 - k) (omega arith) ∙ ap (λ n. 2 ^ n - 1) more

set_up_to : (n k j : ℕ) → j ≤ k → bit_at (bit_or n (2 ^ (k + 1) - 1)) j ≡ 1
set_up_to n k j le =
    let one : bit_at (2 ^ (k + 1) - 1) j ≡ 1 = bit_at_ones (k + 1) j (omega arith) in
    omega (arith, bit_at_or n (2 ^ (k + 1) - 1) j, bit_at-lt n j)

kept_above : (n k j : ℕ) → k < j → bit_at (bit_or n (2 ^ (k + 1) - 1)) j ≡ bit_at n j
kept_above n k j lt =
    let none : bit_at (2 ^ (k + 1) - 1) j ≡ 0 = bit_at_ones_above (k + 1) j (omega arith) in
    omega (arith, bit_at_or n (2 ^ (k + 1) - 1) j)

-- the word of a place, with the bits up to that place set
module _ (words : List ℕ) (last w : ℕ) (here : w ≡ last / 64) where
  abbrev masked : ℕ
  masked = bit_or (slice_index words w) ((2 ^ 64 - 1) / 2 ^ (63 - last % 64))

  masked_is : masked ≡ bit_or (slice_index words w) (2 ^ (last % 64 + 1) - 1)
  masked_is = ap (bit_or (slice_index words w)) (up_to (last % 64) (bit_below last))

  pub others_kept : (j : ℕ) → last < 64 * w + j → bit_at masked j ≡ bit_at (slice_index words w) j
  others_kept j above = ap (λ n. bit_at n j) masked_is ∙ kept_above (slice_index words w) (last % 64) j (omega arith)

  pub first_set : (j : ℕ) → j < 64 → 64 * w + j ≤ last → bit_at masked j ≡ 1
  first_set j lt below = ap (λ n. bit_at n j) masked_is ∙ set_up_to (slice_index words w) (last % 64) j (omega arith)

-- a word that is read with the places up to one as if they were set
module _ (words : List ℕ) (last w word : ℕ) (others : (j : ℕ) → last < 64 * w + j → bit_at word j ≡ bit_at (slice_index words w) j) (first : (j : ℕ) → j < 64 → 64 * w + j ≤ last → bit_at word j ≡ 1) where
  bit_of : (j : ℕ) → last < j → 64 * w ≤ j → j < 64 * w + 64 → is_set words j ≡ eqb (bit_at word (j % 64)) 1
  bit_of j low from below =
      let at : j / 64 ≡ w = omega arith in
      let above : last < 64 * w + j % 64 = omega arith in
      ap (λ k. eqb (bit_at (slice_index words k) (j % 64)) 1) at ∙ ap (λ x. eqb x 1) (sym (others (j % 64) above))

  not_first : (i : ℕ) → i < 64 → bit_at word i ≡ 0 → last < w * 64 + i
  not_first i fits clear =
      elim (cases_lt last (w * 64 + i)) [
        | inl above ↦ above
        | inr below ↦ (let set : bit_at word i ≡ 1 = first i fits (omega arith) in absurd (omega arith))
      ]

  pub first_clear_is : (i : ℕ) → i < 64 → bit_at word i ≡ 0 → ((j : ℕ) → j < i → bit_at word j ≡ 1) → IsFirstClear words last w (w * 64 + i)
  first_clear_is i fits clear before =
      let low = not_first i fits clear in
      let bit : (w * 64 + i) % 64 ≡ i = omega arith in
      record {
        low = low;
        from = omega arith;
        below = omega arith;
        clear = bit_of (w * 64 + i) low (omega arith) (omega arith) ∙ ap (λ k. eqb (bit_at word k) 1) bit ∙ ap (λ x. eqb x 1) clear;
        before = λ j lj from lt.
            let within : j % 64 < i = omega arith in
            bit_of j lj from (omega arith) ∙ ap (λ x. eqb x 1) (before (j % 64) within);
      }

-- the first of all words, where those before are set
module _ (words : List ℕ) (last w i : ℕ) (below : (j : ℕ) → last < j → j < 64 * w → is_set words j ≡ true) (is : IsFirstClear words last w i) where
  all_before : (j : ℕ) → last < j → j < i → is_set words j ≡ true
  all_before j low lt =
      elim (cases_lt j (64 * w)) [
        | inl in' ↦ below j low in'
        | inr from ↦ is.before j low from lt
      ]

  pub least_within : (r : Option ℕ) → IfSome r (λ x. (x ≡ i) × (x ≤ 2007)) → IfSome r (IsLeastUnmarked (is_set words) last)
  least_within None h = tt
  least_within (Some x) h = record {
    low = subst (λ n. last < n) (sym h.0) is.low;
    high = h.1;
    free = ap (is_set words) h.0 ∙ is.clear;
    smaller = λ j low lt. all_before j low (subst (λ n. j < n) h.0 lt);
  }

  pub full_within : (r : Option ℕ) → IfNone r (2007 < i) → IfNone r (AreMarkedAbove (is_set words) last)
  full_within None h = λ j low high. all_before j low (omega arith)
  full_within (Some x) h = tt

-- no place is set at first
pub none_set : (j : ℕ) → j < 2048 → is_set (replicate 32 0) j ≡ false
none_set j lt = ap (λ x. eqb (bit_at x (j % 64)) 1) (get_or-replicate 32 (j / 64) 0 0 (word_below j lt)) ∙ ap (λ x. eqb x 1) (bit_at-zero (j % 64))
