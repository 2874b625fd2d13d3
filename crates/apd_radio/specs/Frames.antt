-- The frames that a radio is going to give, and those that it was handed, where they are known.
use Rattle.std.specs.Prelude.{◌≡◌, ℕ, List, [], ◌∷◌, ◌++◌, drop, Option, Some, None}
use Rattle.std.specs.List.{slice_get}
use Rattle.std.specs.Option.{option_map}

-- the first of the known frames was given, and the rest are left; frames that are not known stay so
abbrev pub Polls : Option (List (List ℕ)) → Option (List ℕ) → Option (List (List ℕ)) → Type 0
Polls None got left = left ≡ None
Polls (Some frames) got left = (got ≡ slice_get frames 0) × (left ≡ Some (drop 1 frames))

-- the frames that a radio took, and then this one, once; frames that are not known stay so
abbrev pub and_then : Option (List (List ℕ)) → List ℕ → Option (List (List ℕ))
and_then sent frame = option_map (λ frames. frames ++ frame ∷ []) sent
