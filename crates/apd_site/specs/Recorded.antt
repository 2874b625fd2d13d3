-- What a recording's file holds, where there is one (own).
use Rattle.std.specs.Prelude.{ℕ, List, Option, None, Some}

-- what is known of the writer that is there; of none nothing is
abbrev pub held_by : {W : Type 0} → (W → Option (List ℕ)) → Option W → Option (List ℕ)
held_by contents None = None
held_by contents (Some writer) = contents writer
