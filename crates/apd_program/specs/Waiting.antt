-- What became of a line that was to wait until it can be written.
use Rattle.std.specs.Prelude.{◌≡◌, ◌+◌, ◌-◌, ◌^◌, ◌++◌, ℕ, List, min}
use Rattle.std.specs.String.{string_bytes}
use Rattle.apd_program.specs.declared.lines.Lines.{Lines}

-- it waits as the last, once; none was lost before it
abbrev pub Keeps : Lines → List ℕ → Lines → Type 0
Keeps old line new = (string_bytes new.text ≡ string_bytes old.text ++ line) × (old.lost ≡ 0) × (new.lost ≡ 0)

-- it is counted, and those that wait are as they were
abbrev pub Loses : Lines → Lines → Type 0
Loses old new = (string_bytes new.text ≡ string_bytes old.text) × (new.lost ≡ min (old.lost + 1) (2 ^ 64 - 1))

-- nothing came, and nothing is lost
abbrev pub Stays : Lines → Lines → Type 0
Stays old new = (string_bytes new.text ≡ string_bytes old.text) × (new.lost ≡ old.lost)
