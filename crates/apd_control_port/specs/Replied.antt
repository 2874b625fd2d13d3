-- The replies that a port took (own).
use Rattle.std.specs.Prelude.{ℕ, List, ◌++◌, Option}
use Rattle.std.specs.Option.{option_map}

-- a reply: the tag of its command, and its text
abbrev pub Reply : Type 0
Reply = ℕ × List ℕ

-- the replies that a port took, and then these, each once; replies that are not known stay so
abbrev pub and_replies : Option (List Reply) → List Reply → Option (List Reply)
and_replies taken replies = option_map (λ before. before ++ replies) taken
