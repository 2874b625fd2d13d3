-- The lines of configuration files and of list files.
use Rattle.std.specs.Prelude.{ℕ, Bool, false, ◌==◌, ◌&&◌, ◌||◌, List, [], ◌∷◌, length, slice_index, if◌then◌else◌}
use Rattle.std.specs.List.{onto_first}
use Rattle.apd_base.specs.Text.{carriage_return, newline, number_sign}

-- right before a newline
abbrev pub is_at_newline : List ℕ → Bool
is_at_newline [] = false
is_at_newline (b ∷ bs) = b == newline

-- the lines of a file: each ends at a newline, which the last may lack, and a carriage return right before a
-- newline is dropped
unfoldable pub lines : List ℕ → List (List ℕ)
lines [] = []
lines (b ∷ bs) =
    if b == newline then [] ∷ lines bs
    else (if b == carriage_return && is_at_newline bs then lines bs else onto_first b (lines bs))

-- empty, or a remark: its first byte is '#'
abbrev pub is_skipped : List ℕ → Bool
is_skipped line = length line == 0 || slice_index line 0 == number_sign
