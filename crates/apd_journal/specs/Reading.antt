-- What the parts of a half read as.
use Rattle.std.specs.Prelude.{◌≡◌, ◌≢◌, ◌≤◌, ℕ, List, ◌∷◌, ◌++◌, length}
use Rattle.std.specs.Int.{to_le_bytes, w32}
use Rattle.apd_journal.specs.Half.{AreGroups, block_of, groups_of, changes_of}
use Rattle.apd_record.specs.Ranges.{AreChanges}
use Rattle.apd_record.specs.Record.{records_of}
use Rattle.apd_record.specs.declared.change.Change.{Change}

-- a length in four bytes, that many bytes, and the rest
pub record IsBlock (bytes : List ℕ) (limit : ℕ) (inside rest : List ℕ) : Type 0 where
  pub short : length inside ≤ limit
  pub is : bytes ≡ to_le_bytes w32 (length inside) ++ (inside ++ rest)

-- the records of these changes behind their length, and the rest
pub record HasBlock (bytes : List ℕ) (limit : ℕ) (changes : List Change) (rest : List ℕ) : Type 0 where
  pub are : AreChanges changes
  pub short : length (records_of changes) ≤ limit
  pub is : bytes ≡ block_of changes ++ rest

-- Open groups, which lead from changes to those after them, and a closed gate at this place.
pub record HasGroups (bytes : List ℕ) (before after : List Change) (place : ℕ) : Type 0 where
  pub groups : List (List Change)
  pub gate : ℕ
  pub behind : List ℕ
  pub are : AreGroups groups
  pub closed : gate ≢ 1
  pub is : bytes ≡ groups_of groups ++ (gate ∷ behind)
  pub adds : after ≡ before ++ changes_of groups
  pub place_is : length (groups_of groups) ≡ place
