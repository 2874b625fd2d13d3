-- How decimal digits write a number.
use Rattle.std.proofs.Common.{◌≡◌, ℕ, zero, suc, ◌+◌, ◌*◌, ◌<◌, ◌≤◌, ◌^◌, ◌&&◌, Bool, true, false, cond, Some, None, List, [], ◌∷◌, length, get_or, drop, refl, ap, ◌∙◌, arith}
use Rattle.std.specs.Prelude.{nat_le}
use Rattle.std.specs.Char.{digit_value}
use Rattle.std.specs.Fmt.{decimal}
use Rattle.std.proofs.lemmas.Bool.{le-leb}
use Rattle.std.proofs.lemmas.Fmt.{decimal_is_IsNumeral, digits_decimal}
use Rattle.std.proofs.lemmas.Str.Parse.{numerals_by_value, tells_all_ascii_digits}
use Rattle.std.specs.Str.{all_ascii_digits}
use Rattle.std.specs.Str.Parse.{digits_value, digits_value_after}
use Rattle.std.proofs.lemmas.Bool.Decides.{nat_tests}
use Rattle.apd_base.specs.Text.{decimal_number}

-- no digits make a number smaller
at_least : (n : ℕ) (ds : List ℕ) → n ≤ digits_value_after 10 n ds
at_least n [] = omega arith
at_least n (d ∷ ds) = omega (arith, at_least (n * 10 + digit_value d) ds)

-- nor do those behind the next one
next_at_least : (n : ℕ) (ds : List ℕ) (i : ℕ) → i < length ds → n * 10 + digit_value (get_or ds i 0) ≤ digits_value_after 10 n (drop i ds)
next_at_least n [] i h = absurd (omega arith)
next_at_least n (d ∷ ds) zero h = at_least (n * 10 + digit_value d) ds
next_at_least n (d ∷ ds) (suc i) h = next_at_least n ds i (omega arith)

none_of : (a b c d : Bool) (n : ℕ) → d ≡ false → cond (a && b && c && d) (Some n) None ≡ None
none_of true true true d n e = ap (λ t. cond t (Some n) None) e
none_of true true false d n e = refl
none_of true false c d n e = refl
none_of false b c d n e = refl

-- where the next digit takes a number above the greatest, the digits write none
pub beyond : (most greatest n : ℕ) (ds : List ℕ) (i : ℕ) → i < length ds → digits_value 10 ds ≡ digits_value_after 10 n (drop i ds) → greatest < n * 10 + digit_value (get_or ds i 0) → decimal_number most greatest ds ≡ None
unfolding decimal_number
beyond most greatest n ds i h same large =
    let above : greatest < digits_value 10 ds = omega (arith, next_at_least n ds i h) in
    let no : nat_le (digits_value 10 ds) greatest ≡ false = grind (arith, nat_tests) in
    none_of (nat_le 1 (length ds)) (nat_le (length ds) most) (all_ascii_digits ds) (nat_le (digits_value 10 ds) greatest) (digits_value 10 ds) no

all_of_four : (a b c d : Bool) (n : ℕ) → a ≡ true → b ≡ true → c ≡ true → d ≡ true → cond (a && b && c && d) (Some n) None ≡ Some n
all_of_four a b c d n e f g h = (λ i. cond (e i && f i && g i && h i) (Some n) None)

-- the digits that are printed of a number are read as it
pub number-decimal : (most greatest n : ℕ) → n < 2 ^ 64 → length (decimal n) ≤ most → n ≤ greatest → decimal_number most greatest (decimal n) ≡ Some n
unfolding decimal_number
number-decimal most greatest n fits short low =
    let digits = decimal n in
    let numeral = decimal_is_IsNumeral n fits in
    let value : digits_value 10 digits ≡ n = numeral.1 in
    let own = numerals_by_value (λ ds. all_ascii_digits ds ≡ true) tells_all_ascii_digits in
    all_of_four (nat_le 1 (length digits)) (nat_le (length digits) most) (all_ascii_digits digits) (nat_le (digits_value 10 digits) greatest) (digits_value 10 digits)
    (le-leb 1 (length digits) (omega (arith, numeral.0.0))) (le-leb (length digits) most short) (digits_decimal own n fits) (le-leb (digits_value 10 digits) greatest (rw value low))
    ∙ ap Some value
