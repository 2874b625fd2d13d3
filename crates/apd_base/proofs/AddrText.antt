-- What the text of an address reads as.
use Rattle.std.proofs.Common.{◌≡◌, ℕ, zero, suc, ◌+◌, ◌*◌, ◌/◌, ◌%◌, ◌<◌, ◌&&◌, true, cond, List, [], ◌∷◌, ◌++◌, length, ◌^◌, ◌-◌, false, Option, Some, None, refl, sym, ap, subst, ◌∙◌, arith}
use Rattle.std.specs.Prelude.{◌==◌, slice_index, map}
use Rattle.std.specs.List.{AllByRecursion}
use Rattle.std.specs.Option.{option_map}
use Rattle.std.proofs.lemmas.Bool.{eq-eqb, eqb-true, and_parts}
use Rattle.std.proofs.lemmas.Grind.{common_steps}
use Rattle.apd_base.specs.declared.address.Addr.{Addr}
use Rattle.std.proofs.lemmas.Fmt.{hex_byte as padded_byte}
use Rattle.std.specs.Fmt.{digits, padded_integral, format_spec}
use Rattle.apd_base.specs.Addr.{IsAddr, address_of, all_of, is_joined, is_joined_at, pair_at, text_of, hex_digit, digit_value_of, byte_value, byte_from, with_front}
use Rattle.apd_base.proofs.Cases.{same_some}

-- a digit is read as it was written
value-digit : (d : ℕ) → d < 16 → digit_value_of (hex_digit d) ≡ Some d
value-digit d h = grind (arith, common_steps)

whole : (b : ℕ) → b / 16 * 16 + b % 16 ≡ b
whole b = omega arith

-- and so is a byte
pub value-byte : (b : ℕ) → b < 256 → byte_value (hex_digit (b / 16)) (hex_digit (b % 16)) ≡ Some b
value-byte b h =
    let high : b / 16 < 16 = omega arith in
    let low : b % 16 < 16 = omega arith in
    (λ i. byte_from (value-digit (b / 16) high i) (value-digit (b % 16) low i)) ∙ ap Some (whole b)

-- six pairs of digits joined by ':' that stand for these bytes
pub record IsText (text bytes : List ℕ) : Type 0 where
  pub long : length text ≡ 17
  pub six : length bytes ≡ 6
  pub pairs : (i : ℕ) → i < 6 → byte_value (slice_index text (3 * i)) (slice_index text (3 * i + 1)) ≡ Some (slice_index bytes i)
  pub colons : (i : ℕ) → i < 5 → slice_index text (3 * i + 2) ≡ 58

-- what holds of each place holds of every place below six
below_six : (P : ℕ → Type 0) → P 0 → P 1 → P 2 → P 3 → P 4 → P 5 → (i : ℕ) → i < 6 → P i
below_six P a b c d e f zero lt = a
below_six P a b c d e f (suc zero) lt = b
below_six P a b c d e f (suc (suc zero)) lt = c
below_six P a b c d e f (suc (suc (suc zero))) lt = d
below_six P a b c d e f (suc (suc (suc (suc zero)))) lt = e
below_six P a b c d e f (suc (suc (suc (suc (suc zero))))) lt = f
below_six P a b c d e f (suc (suc (suc (suc (suc (suc n)))))) lt = absurd (omega arith)

below_five : (P : ℕ → Type 0) → P 0 → P 1 → P 2 → P 3 → P 4 → (i : ℕ) → i < 5 → P i
below_five P a b c d e zero lt = a
below_five P a b c d e (suc zero) lt = b
below_five P a b c d e (suc (suc zero)) lt = c
below_five P a b c d e (suc (suc (suc zero))) lt = d
below_five P a b c d e (suc (suc (suc (suc zero)))) lt = e
below_five P a b c d e (suc (suc (suc (suc (suc n))))) lt = absurd (omega arith)

-- six bytes, one by one
pub six_of : (bytes : List ℕ) → length bytes ≡ 6 → bytes ≡ slice_index bytes 0 ∷ slice_index bytes 1 ∷ slice_index bytes 2 ∷ slice_index bytes 3 ∷ slice_index bytes 4 ∷ slice_index bytes 5 ∷ []
six_of [] n = absurd (omega arith)
six_of (a ∷ []) n = absurd (omega arith)
six_of (a ∷ b ∷ []) n = absurd (omega arith)
six_of (a ∷ b ∷ c ∷ []) n = absurd (omega arith)
six_of (a ∷ b ∷ c ∷ d ∷ []) n = absurd (omega arith)
six_of (a ∷ b ∷ c ∷ d ∷ e ∷ []) n = absurd (omega arith)
six_of (a ∷ b ∷ c ∷ d ∷ e ∷ f ∷ []) n = refl
six_of (a ∷ b ∷ c ∷ d ∷ e ∷ f ∷ g ∷ more) n = absurd (omega arith)

joined : (text : List ℕ) → ((i : ℕ) → i < 5 → slice_index text (3 * i + 2) ≡ 58) → is_joined text ≡ true
joined text colons =
    let at : (i : ℕ) → i < 5 → is_joined_at text i ≡ true = λ i lt. eq-eqb _ _ (colons i lt) in
    rw (at 0 (omega arith), at 1 (omega arith), at 2 (omega arith), at 3 (omega arith), at 4 (omega arith)) refl

-- a text that stands for an address is read as it
pub text-address_of : (text bytes : List ℕ) → IsText text bytes → address_of text ≡ Some (record { 0 = bytes })
unfolding address_of
text-address_of text bytes h =
    let at : (i : ℕ) → i < 6 → pair_at text i ≡ Some (slice_index bytes i) = h.pairs in
    let front : (length text == 17 && is_joined text) ≡ true = (λ i. eq-eqb _ _ h.long i && joined text h.colons i) in
    rw front
    (rw (at 0 (omega arith), at 1 (omega arith), at 2 (omega arith), at 3 (omega arith), at 4 (omega arith), at 5 (omega arith))
    (ap (λ b. Some (record { 0 = b })) (sym (six_of bytes h.six))))

every : (x : Option ℕ) (xs : List (Option ℕ)) (l : List ℕ) → all_of (x ∷ xs) ≡ Some l → (y : ℕ) × (ys : List ℕ) × (x ≡ Some y) × (all_of xs ≡ Some ys) × (l ≡ y ∷ ys)
every None xs l e = cc
every (Some y) xs l e =
    elim (all_of xs) as (λ o. all_of xs ≡ o → with_front (Some y) o ≡ Some l → (y' : ℕ) × (ys : List ℕ) × (Some y ≡ Some y') × (all_of xs ≡ Some ys) × (l ≡ y' ∷ ys)) [
      | None ↦ λ is f. cc
      | Some ys ↦ λ is f. (y, ys, refl, is, cc)
    ] refl e

colons_of : (text : List ℕ) → is_joined text ≡ true → (i : ℕ) → i < 5 → slice_index text (3 * i + 2) ≡ 58
colons_of text h =
    let a = and_parts _ _ h in
    let b = and_parts _ _ a.1 in
    let c = and_parts _ _ b.1 in
    let d = and_parts _ _ c.1 in
    let e = and_parts _ _ d.1 in
    below_five (λ i. slice_index text (3 * i + 2) ≡ 58) (eqb-true _ _ a.0) (eqb-true _ _ b.0) (eqb-true _ _ c.0) (eqb-true _ _ d.0) (eqb-true _ _ e.0)

six_long : (a b c d e f : ℕ) → length (a ∷ b ∷ c ∷ d ∷ e ∷ f ∷ []) ≡ 6
six_long a b c d e f = refl

pairs_text : (text bytes : List ℕ) → length text ≡ 17 → is_joined text ≡ true → all_of (map (pair_at text) (0 ∷ 1 ∷ 2 ∷ 3 ∷ 4 ∷ 5 ∷ [])) ≡ Some bytes → IsText text bytes
pairs_text text bytes long colons h =
    let at = pair_at text in
    let a = every (at 0) (map at (1 ∷ 2 ∷ 3 ∷ 4 ∷ 5 ∷ [])) bytes h in
    let b = every (at 1) (map at (2 ∷ 3 ∷ 4 ∷ 5 ∷ [])) a.1 a.3 in
    let c = every (at 2) (map at (3 ∷ 4 ∷ 5 ∷ [])) b.1 b.3 in
    let d = every (at 3) (map at (4 ∷ 5 ∷ [])) c.1 c.3 in
    let e = every (at 4) (at 5 ∷ []) d.1 d.3 in
    let f = every (at 5) [] e.1 e.3 in
    let none : f.1 ≡ [] = cc in
    let is : bytes ≡ a.0 ∷ b.0 ∷ c.0 ∷ d.0 ∷ e.0 ∷ f.0 ∷ [] = cc in
    subst (IsText text) {x = a.0 ∷ b.0 ∷ c.0 ∷ d.0 ∷ e.0 ∷ f.0 ∷ []} (sym is) (record {
      long = long;
      six = six_long a.0 b.0 c.0 d.0 e.0 f.0;
      pairs = below_six (λ i. pair_at text i ≡ Some (slice_index (a.0 ∷ b.0 ∷ c.0 ∷ d.0 ∷ e.0 ∷ f.0 ∷ []) i)) a.2 b.2 c.2 d.2 e.2 f.2;
      colons = colons_of text colons;
    })

-- and what is read is what the text stands for
pub address_of-text : (text : List ℕ) (a : Addr) → address_of text ≡ Some a → IsText text a.0
unfolding address_of
address_of-text text a h =
    elim (length text == 17 && is_joined text) as (λ b. (length text == 17 && is_joined text) ≡ b
    → cond b (option_map (λ bytes. record { 0 = bytes }) (all_of (map (pair_at text) (0 ∷ 1 ∷ 2 ∷ 3 ∷ 4 ∷ 5 ∷ [])))) None ≡ Some a → IsText text a.0) [
      | true ↦ λ front g.
          let p = and_parts (length text == 17) (is_joined text) front in
          elim (all_of (map (pair_at text) (0 ∷ 1 ∷ 2 ∷ 3 ∷ 4 ∷ 5 ∷ []))) as (λ o. all_of (map (pair_at text) (0 ∷ 1 ∷ 2 ∷ 3 ∷ 4 ∷ 5 ∷ [])) ≡ o
          → option_map (λ bytes. record { 0 = bytes }) o ≡ Some a → IsText text a.0) [
            | None ↦ λ is k. cc
            | Some bytes ↦ λ is k. subst (λ (x : Addr). IsText text x.0) (same_some _ a k) (pairs_text text bytes (eqb-true _ _ p.0) p.1 is)
          ] refl g
      | false ↦ λ front g. cc
    ] refl h

-- a text that stands for none is read as none
pub no_address : (text : List ℕ) → ((bytes : List ℕ) → IsText text bytes → ⊥) → None ≡ address_of text
no_address text none =
    elim (address_of text) as (λ o. address_of text ≡ o → None ≡ o) [
      | None ↦ λ is. refl
      | Some a ↦ λ is. absurd (none a.0 (address_of-text text a is))
    ] refl

-- the text of six bytes reads as them
six : (bytes : List ℕ) → length bytes ≡ 6 → AllByRecursion (λ b. b < 256) bytes → IsText (text_of (record { 0 = bytes })) bytes
six [] n h = absurd (omega arith)
six (a ∷ []) n h = absurd (omega arith)
six (a ∷ b ∷ []) n h = absurd (omega arith)
six (a ∷ b ∷ c ∷ []) n h = absurd (omega arith)
six (a ∷ b ∷ c ∷ d ∷ []) n h = absurd (omega arith)
six (a ∷ b ∷ c ∷ d ∷ e ∷ []) n h = absurd (omega arith)
six (a ∷ b ∷ c ∷ d ∷ e ∷ f ∷ []) n (ha, (hb, (hc, (hd, (he, (hf, _)))))) =
    let bytes = a ∷ b ∷ c ∷ d ∷ e ∷ f ∷ [] in
    let text = text_of (record { 0 = bytes }) in
    record {
      long = refl;
      six = refl;
      pairs = below_six (λ i. byte_value (slice_index text (3 * i)) (slice_index text (3 * i + 1)) ≡ Some (slice_index bytes i))
          (value-byte a ha) (value-byte b hb) (value-byte c hc) (value-byte d hd) (value-byte e he) (value-byte f hf);
      colons = below_five (λ i. slice_index text (3 * i + 2) ≡ 58) refl refl refl refl refl;
    }
six (a ∷ b ∷ c ∷ d ∷ e ∷ f ∷ g ∷ more) n h = absurd (omega arith)

-- an address is read as it was written
pub address_of-text_of : (a : Addr) → IsAddr a → address_of (text_of a) ≡ Some a
address_of-text_of a h = text-address_of (text_of a) a.0 (six a.0 h.0 h.1)

-- the text of an address has its length
pub address_length : (text : List ℕ) (a : Addr) → address_of text ≡ Some a → length text ≡ 17
address_length text a h = (address_of-text text a h).long

-- a byte, as `{:02x}` prints it
abbrev pub padded : ℕ → List ℕ
padded b = padded_integral (format_spec 32 0 4 2 (2 ^ 64 - 1)) false [] (digits 16 false b)

-- six bytes, each as `{:02x}` prints it, joined by ':'
pub printed : (bytes : List ℕ) → length bytes ≡ 6
    → slice_index bytes 0 < 256 → slice_index bytes 1 < 256 → slice_index bytes 2 < 256
    → slice_index bytes 3 < 256 → slice_index bytes 4 < 256 → slice_index bytes 5 < 256
    → padded (slice_index bytes 0) ++ (58 ∷ (padded (slice_index bytes 1) ++ (58 ∷ (padded (slice_index bytes 2) ++ (58 ∷
    (padded (slice_index bytes 3) ++ (58 ∷ (padded (slice_index bytes 4) ++ (58 ∷ padded (slice_index bytes 5))))))))))
    ≡ text_of (record { 0 = bytes })
printed [] n ha hb hc hd he hf = absurd (omega arith)
printed (a ∷ []) n ha hb hc hd he hf = absurd (omega arith)
printed (a ∷ b ∷ []) n ha hb hc hd he hf = absurd (omega arith)
printed (a ∷ b ∷ c ∷ []) n ha hb hc hd he hf = absurd (omega arith)
printed (a ∷ b ∷ c ∷ d ∷ []) n ha hb hc hd he hf = absurd (omega arith)
printed (a ∷ b ∷ c ∷ d ∷ e ∷ []) n ha hb hc hd he hf = absurd (omega arith)
printed (a ∷ b ∷ c ∷ d ∷ e ∷ f ∷ []) n ha hb hc hd he hf =
    rw (padded_byte false a ha, padded_byte false b hb, padded_byte false c hc, padded_byte false d hd, padded_byte false e he, padded_byte false f hf) refl
printed (a ∷ b ∷ c ∷ d ∷ e ∷ f ∷ g ∷ more) n ha hb hc hd he hf = absurd (omega arith)
