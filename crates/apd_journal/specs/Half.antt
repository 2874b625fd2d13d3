-- One half of a store's device: a snapshot and groups of changes behind it (own).
use Rattle.std.specs.Prelude.{◌≡◌, ◌≢◌, ◌<◌, ◌≤◌, ◌^◌, ℕ, List, [], ◌∷◌, ◌++◌, length}
use Rattle.std.specs.Int.{to_le_bytes, w32, w64}
use Rattle.std.specs.List.{AllByRecursion, flat_map}
use Rattle.apd_base.specs.declared.limits.TheConstants.{MAX_GROUP}
use Rattle.apd_record.specs.Ranges.{AreChanges}
use Rattle.apd_record.specs.Record.{records_of}
use Rattle.apd_record.specs.declared.change.Change.{Change}

-- records with their length before them
abbrev pub block_of : List Change → List ℕ
block_of changes = to_le_bytes w32 (length (records_of changes)) ++ records_of changes

-- a group whose gate is open
abbrev pub group_of : List Change → List ℕ
group_of changes = 1 ∷ block_of changes

-- what stands behind a group's gate, through the next gate, which is closed
abbrev pub planned_bytes : List Change → List ℕ
planned_bytes changes = block_of changes ++ 0 ∷ []

-- what stands behind the gate of a half that begins anew: an epoch, a snapshot, and the first group's gate, which is
-- closed
abbrev pub begun_bytes : ℕ → List Change → List ℕ
begun_bytes epoch snapshot = to_le_bytes w64 epoch ++ planned_bytes snapshot

-- the changes of one group
abbrev pub IsGroup : List Change → Type 0
IsGroup changes = AreChanges changes × (length (records_of changes) ≤ MAX_GROUP)

abbrev pub AreGroups : List (List Change) → Type 0
AreGroups groups = AllByRecursion IsGroup groups

-- open groups, one behind another
abbrev pub groups_of : List (List Change) → List ℕ
groups_of groups = flat_map group_of groups

-- the changes of groups, in order
abbrev pub changes_of : List (List Change) → List Change
changes_of groups = flat_map (λ group. group) groups

-- an open half up to its closed gate: an epoch, a snapshot and open groups
abbrev pub front_of : ℕ → List Change → List (List Change) → List ℕ
front_of epoch snapshot groups = 1 ∷ (to_le_bytes w64 epoch ++ (block_of snapshot ++ groups_of groups))

-- the front of a half with this epoch, whose snapshot and groups are these changes
pub record IsFront (front : List ℕ) (epoch : ℕ) (changes : List Change) : Type 0 where
  pub snapshot : List Change
  pub groups : List (List Change)
  pub is : front ≡ front_of epoch snapshot groups
  pub changes_are : changes ≡ snapshot ++ changes_of groups
  pub epoch_fits : epoch < 2 ^ 64
  pub snapshot_are : AreChanges snapshot
  pub snapshot_fits : length (records_of snapshot) < 2 ^ 32
  pub groups_are : AreGroups groups

-- The half is such a front, a closed gate at this place, and anything behind it.
pub record HalfHolds (half : List ℕ) (epoch : ℕ) (changes : List Change) (place : ℕ) : Type 0 where
  pub front : List ℕ
  pub gate : ℕ
  pub behind : List ℕ
  pub is_front : IsFront front epoch changes
  pub closed : gate ≢ 1
  pub is : half ≡ front ++ (gate ∷ behind)
  pub place_is : length front ≡ place
