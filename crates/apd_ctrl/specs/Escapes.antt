-- How bytes are printed so that each text stays on one line.
use Rattle.std.specs.Prelude.{ℕ, ◌==◌, ◌&&◌, nat_le, List, [], ◌∷◌, ◌++◌, codes, if◌then◌else◌}
use Rattle.std.specs.List.{flat_map}
use Rattle.apd_base.specs.Addr.{hex_byte}
use Rattle.apd_base.specs.Text.{blank, carriage_return, newline, tab}

-- a byte: backslash and double quote with a backslash in front, newline, carriage return, tab and escape as a letter,
-- what is visible or a blank as it stands, each other one as '\x' and two digits
abbrev pub escaped_byte : ℕ → List ℕ
escaped_byte b =
    if b == 92 then codes "\\\\"
    else (if b == 34 then codes "\\\""
    else (if b == newline then codes "\\n"
    else (if b == carriage_return then codes "\\r"
    else (if b == tab then codes "\\t"
    else (if b == 27 then codes "\\e"
    else (if nat_le blank b && nat_le b 126 then b ∷ []
    else codes "\\x" ++ hex_byte b))))))

abbrev pub escaped_text : List ℕ → List ℕ
escaped_text bytes = flat_map escaped_byte bytes
