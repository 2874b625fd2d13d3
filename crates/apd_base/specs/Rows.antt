-- Lists of entries in the order of their keys: where a key stands or would stand, and what an edit there makes.
use Rattle.std.specs.Prelude.{ℕ, ◌+◌, List, [], ◌∷◌, Option, None, Result, Ok, Err}
use Rattle.std.specs.List.{insert, remove, slice_get}
use Rattle.std.specs.Prelude.{slice_set as set}
use Rattle.std.specs.Option.{option_map}
use Rattle.std.specs.declared.cmp.Ordering.{Ordering}
use Rattle.std.specs.declared.cmp.Ordering.TheVariants.{Less, Equal, Greater}

-- a place that is counted from n entries further in front
abbrev pub offset : ℕ → Result ℕ ℕ → Result ℕ ℕ
offset n (Ok i) = Ok (n + i)
offset n (Err i) = Err (n + i)

abbrev pub by_order : {A : Type 0} → Ordering → A → A → A → A
by_order Less a b c = a
by_order Equal a b c = b
by_order Greater a b c = c

-- the place of the key, or the one where it would go
abbrev pub place : {K X : Type 0} → (K → K → Ordering) → K → List (K × X) → Result ℕ ℕ
place R k [] = Err 0
place R k (e ∷ es) = by_order (R k e.0) (Err 0) (Ok 0) (offset 1 (place R k es))

-- the value at a place, if the key is there
abbrev pub value_at : {K X : Type 0} → List (K × X) → Result ℕ ℕ → Option X
value_at es (Ok i) = option_map (λ e. e.1) (slice_get es i)
value_at es (Err i) = None

-- the entries with the value at the key, whose place that is
abbrev pub put_at : {K X : Type 0} → List (K × X) → K → X → Result ℕ ℕ → List (K × X)
put_at es k v (Ok i) = set es i (k, v)
put_at es k v (Err i) = insert es i (k, v)

-- the entries without the one at the place
abbrev pub remove_at : {K X : Type 0} → List (K × X) → Result ℕ ℕ → List (K × X)
remove_at es (Ok i) = remove es i
remove_at es (Err i) = es
