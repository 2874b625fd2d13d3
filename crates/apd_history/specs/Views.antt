-- What the passes of the pages know, and what each step tells.
use Rattle.std.specs.Prelude.{◌≡◌, ℕ, Bool, true, List, [], ◌∷◌, ◌++◌}
use mathlib.Core.Option.{Option, some, none}
use mathlib.Core.List.{IsPrefix}
use lib.ListN.{get_elem?}
use Rattle.atomic_table.specs.Table.{State, Me, Step}
use Rattle.atomic_table.specs.Seated.{TableId}
use Rattle.apd_history.specs.declared.pages.View.{View}

-- the name of no pages
abbrev pub no_table : TableId
no_table = record { words = 0; slots = 0; views_name = 0; atom = 0; block = 0; offset = 0; slot_names = [] }

abbrev pub view : {E : Type 0} → Bool → List E → List E → View E
view keeps all seen = record { keeps = keeps; all = all; seen = seen }

-- one pass at most has the whole log, and what any pass has seen is a beginning of it
abbrev pub Fits : {E : Type 0} → ℕ → List E → ℕ → View E → Type 0
Fits seat log by v = (v.keeps ≡ true → (by ≡ seat) × (v.all ≡ log)) × IsPrefix v.seen log

abbrev pub FitAll : {E : Type 0} → ℕ → List E → List (View E) → Type 0
FitAll {E} seat log views = (by : ℕ) (v : View E) → get_elem? views by ≡ some v → Fits seat log by v

abbrev pub Kept : {E : Type 0} → State E (View E) → Type 0
Kept {E} s = (seat : ℕ) × (log : List E) × FitAll seat log s.views

abbrev pub said_entries : {E : Type 0} → Option E → List E
said_entries none = []
said_entries (some e) = e ∷ []

-- the entry that was said stands behind all others
abbrev pub Appends : {E : Type 0} → Step E → Me E (View E) → ℕ → Me E (View E) → Type 0
Appends st m found m' = m' ≡ (view m.0.keeps (m.0.all ++ said_entries st.said) m.0.seen, m.1)

-- what was seen begins the whole log
abbrev pub Checks : {E : Type 0} → Step E → Me E (View E) → ℕ → Me E (View E) → Type 0
Checks st m found m' = (m' ≡ m) × (m.0.keeps ≡ true → IsPrefix m.0.seen m.0.all)
