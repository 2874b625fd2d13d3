-- The elements of a frame's body (IEEE Std 802.11-2016, 9.4.2.1): each is its ID and its body.
use Rattle.std.specs.Prelude.{◌≡◌, ◌≢◌, ℕ, zero, suc, ◌<◌, ◌==◌, Bool, nat_le, Option, List, [], ◌∷◌, ◌++◌, length, take, if◌then◌else◌}
use Rattle.std.specs.List.{AllByRecursion, find, flat_map}
use Rattle.std.specs.Option.{option_map}
use Rattle.std.specs.Str.{bytes_eq}

-- Element ID, Length, and that many octets
abbrev pub octets_of_one : ℕ × List ℕ → List ℕ
octets_of_one e = e.0 ∷ length e.1 ∷ e.1

abbrev pub octets_of : List (ℕ × List ℕ) → List ℕ
octets_of elements = flat_map octets_of_one elements

-- one octet tells the length of a body
abbrev pub IsElement : ℕ × List ℕ → Type 0
IsElement e = length e.1 < 256

abbrev pub AreElements : List (ℕ × List ℕ) → Type 0
AreElements elements = AllByRecursion IsElement elements

-- the octets are those of elements
abbrev pub WellFormed : List ℕ → Type 0
WellFormed f = (elements : List (ℕ × List ℕ)) × AreElements elements × (f ≡ octets_of elements)

-- The longest list of whole elements from the front: no whole element stands behind them.
pub record IsLongest (f : List ℕ) (elements : List (ℕ × List ℕ)) : Type 0 where
  pub are : AreElements elements
  pub behind : List ℕ
  pub is : f ≡ octets_of elements ++ behind
  pub none_behind : (e : ℕ × List ℕ) (more : List ℕ) → IsElement e → behind ≢ octets_of_one e ++ more

-- The same computed, with as many octets in front as are not looked at: an element is taken where all of it is there.
abbrev pub elements_behind : ℕ → List ℕ → List (ℕ × List ℕ)
elements_behind n [] = []
elements_behind (suc n) (x ∷ f) = elements_behind n f
elements_behind zero (id ∷ []) = []
elements_behind zero (id ∷ len ∷ f) = if nat_le len (length f) then (id, take len f) ∷ elements_behind len f else []

abbrev pub elements_of : List ℕ → List (ℕ × List ℕ)
elements_of f = elements_behind 0 f

-- nothing stands behind the whole elements from the front
abbrev pub well_formed : List ℕ → Bool
well_formed f = bytes_eq (octets_of (elements_of f)) f

-- the body of the first whole element with an ID
abbrev pub first_with : ℕ → List ℕ → Option (List ℕ)
first_with id f = option_map (λ e. e.1) (find (λ e. e.0 == id) (elements_of f))
