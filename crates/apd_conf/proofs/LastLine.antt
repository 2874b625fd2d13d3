-- The last of the lines that give a name a value counts.
use Rattle.std.proofs.Common.{◌≡◌, ℕ, List, [], ◌∷◌, ◌++◌, Option, Some, None, refl, ap, ◌∙◌}
use Rattle.std.specs.List.{last_or, filter_map, cons_option}
use Rattle.std.proofs.lemmas.List.{append-nil}
use Rattle.std.proofs.lemmas.List.Elements.{filter_map-append}
use Rattle.apd_conf.specs.ConfFile.{value_in, value_of}

last_item : {X : Type 0} (o : Option X) (xs : List X) (x : X) → last_or o (xs ++ x ∷ []) ≡ Some x
last_item o [] x = refl
last_item o (y ∷ ys) x = last_item (Some y) ys x

-- the values of a name with one line more
values_with : (name : List ℕ) (lines : List (List ℕ)) (line : List ℕ) (found : Option (List ℕ)) → value_in name line ≡ found
    → filter_map (value_in name) (lines ++ line ∷ []) ≡ filter_map (value_in name) lines ++ cons_option found []
values_with name lines line found e = filter_map-append (value_in name) lines (line ∷ []) ∙ ap (λ o. filter_map (value_in name) lines ++ cons_option o []) e

pub last_line : (name value line : List ℕ) (lines : List (List ℕ)) → value_in name line ≡ Some value → value_of name (lines ++ line ∷ []) ≡ Some value
unfolding value_of
last_line name value line lines e = ap (last_or None) (values_with name lines line (Some value) e) ∙ last_item None (filter_map (value_in name) lines) value

pub other_line : (name line : List ℕ) (lines : List (List ℕ)) → value_in name line ≡ None → value_of name (lines ++ line ∷ []) ≡ value_of name lines
unfolding value_of
other_line name line lines e = ap (last_or None) (values_with name lines line None e ∙ append-nil (filter_map (value_in name) lines))
