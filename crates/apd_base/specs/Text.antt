-- Text: bytes by their names, and what several formats are made of.
use Rattle.std.specs.Prelude.{ℕ, Bool, ◌==◌, ◌&&◌, nat_le, List, [], ◌∷◌, ◌++◌, length, Option, Some, None, if◌then◌else◌}
use Rattle.std.specs.List.{onto_first}
use Rattle.std.specs.Str.{all_ascii_digits}
use Rattle.std.specs.Str.Parse.{digits_value}

-- bytes by their names (ASCII)
abbrev pub tab : ℕ
tab = 9

abbrev pub newline : ℕ
newline = 10

abbrev pub carriage_return : ℕ
carriage_return = 13

abbrev pub blank : ℕ
blank = 32

abbrev pub number_sign : ℕ
number_sign = 35

abbrev pub hyphen : ℕ
hyphen = 45

abbrev pub colon : ℕ
colon = 58

abbrev pub equals : ℕ
equals = 61

abbrev pub is_blank : ℕ → Bool
is_blank b = b == blank

-- the lines of a text: each ends at a newline, which the last may lack
unfoldable pub lines : List ℕ → List (List ℕ)
lines [] = []
lines (b ∷ bs) = if b == newline then [] ∷ lines bs else onto_first b (lines bs)

-- a line with the newline that ends it
abbrev pub with_newline : List ℕ → List ℕ
with_newline line = line ++ newline ∷ []

-- the number that decimal digits write: at least one digit and at most so many, and no number above the greatest
unfoldable pub decimal_number : ℕ → ℕ → List ℕ → Option ℕ
decimal_number most greatest text =
    if nat_le 1 (length text) && nat_le (length text) most && all_ascii_digits text && nat_le
    (digits_value 10 text) greatest then Some (digits_value 10 text) else None
