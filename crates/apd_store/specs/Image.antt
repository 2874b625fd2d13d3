-- What an image of a store's device shows (own). An image is the list of all its bytes.
use Rattle.std.specs.Prelude.{◌≡◌, ◌<◌, ◌⊎◌, ◌^◌, ℕ, List, [], ◌∷◌, ◌++◌, length, take, drop}
use Rattle.std.specs.List.{AllByRecursion, Contains}
use Rattle.std.proofs.Common.{inl, inr}
use Rattle.std.specs.Int.{to_le_bytes, w64}
use Rattle.apd_base.specs.declared.limits.TheConstants.{DEVICE_LENGTH}
use Rattle.apd_base.specs.State.{State, empty_state}
use Rattle.apd_record.specs.Meaning.{meaning_of}
use Rattle.apd_record.specs.declared.change.Change.{Change}
use Rattle.apd_record.specs.declared.change.Change.TheVariants.{Cursor}
use Rattle.apd_table.specs.Sound.{StaySound}
use Rattle.apd_journal.specs.Half.{HalfHolds}
use Rattle.apd_journal.specs.declared.writer.TheConstants.{HALF_LENGTH}

-- A version of the store has a mark, the eight bytes with which it begins. This one's, version 2, is `RAPSTOR2`.
abbrev pub magic : List ℕ
magic = 82 ∷ 65 ∷ 80 ∷ 83 ∷ 84 ∷ 79 ∷ 82 ∷ 50 ∷ []

-- that of version 1, `RAPSTOR1`
abbrev pub old_magic : List ℕ
old_magic = 82 ∷ 65 ∷ 80 ∷ 83 ∷ 84 ∷ 79 ∷ 82 ∷ 49 ∷ []

abbrev pub marks : List (List ℕ)
marks = magic ∷ old_magic ∷ []

-- the image is the mark, 56 bytes of any kind, half A and half B
pub record IsStoreBy (mark image a b : List ℕ) : Type 0 where
  pub reserved : List ℕ
  pub is : image ≡ mark ++ (reserved ++ (a ++ b))
  pub reserved_length : length reserved ≡ 56
  pub a_length : length a ≡ HALF_LENGTH
  pub b_length : length b ≡ HALF_LENGTH

abbrev pub IsStore : List ℕ → List ℕ → List ℕ → Type 0
IsStore image a b = IsStoreBy magic image a b

-- the half's gate is open
abbrev pub HasOpenGate : List ℕ → Type 0
HasOpenGate half = take 1 half ≡ 1 ∷ []

-- the half is open, and has this epoch
pub record IsOpen (half : List ℕ) (epoch : ℕ) : Type 0 where
  pub behind : List ℕ
  pub is : half ≡ 1 ∷ (to_le_bytes w64 epoch ++ behind)
  pub epoch_fits : epoch < 2 ^ 64

-- the half is closed, or its epoch is smaller
abbrev pub IsBehind : List ℕ → ℕ → Type 0
IsBehind half epoch = (e : ℕ) → IsOpen half e → e < epoch

-- The half holds changes up to its closed gate at this place. One after another they lead from the empty state to
-- this one, and each front of them leaves a sound state.
pub record HalfShows (half : List ℕ) (epoch gate : ℕ) (state : State) : Type 0 where
  pub changes : List Change
  pub holds : HalfHolds half epoch changes gate
  pub sound : StaySound changes empty_state
  pub state_is : meaning_of changes empty_state ≡ state

-- the half shows the state, and the other one is closed or of a smaller epoch
pub record IsCurrent (half other : List ℕ) (gate : ℕ) (state : State) : Type 0 where
  pub epoch : ℕ
  pub shows : HalfShows half epoch gate state
  pub behind : IsBehind other epoch

-- The image is a store of the mark's version, and one of its halves is the current one and shows the state.
pub record ShowsBy (mark image : List ℕ) (state : State) : Type 0 where
  pub a : List ℕ
  pub b : List ℕ
  pub store : IsStoreBy mark image a b
  pub gate : ℕ
  pub current : IsCurrent a b gate state ⊎ IsCurrent b a gate state

abbrev pub Shows : List ℕ → State → Type 0
Shows image state = ShowsBy magic image state

-- no change is a cursor's, of which version 1 has no record
abbrev pub IsNoCursor : Change → Type 0
IsNoCursor (Cursor b last) = ⊥
IsNoCursor other = Unit {0}

abbrev pub HasNoCursor : List Change → Type 0
HasNoCursor changes = AllByRecursion IsNoCursor changes

-- the changes of the current half
abbrev pub current_changes : {a b : List ℕ} {gate : ℕ} {state : State}
    → IsCurrent a b gate state ⊎ IsCurrent b a gate state → List Change
current_changes (inl current) = current.shows.changes
current_changes (inr current) = current.shows.changes

-- The image is a store of version 1, and shows the state to the program that knows that version alone.
pub record ShowsOld (image : List ℕ) (state : State) : Type 0 where
  pub by_mark : ShowsBy old_magic image state
  pub no_cursor : HasNoCursor (current_changes by_mark.current)

-- the image shows no state
abbrev pub ShowsNone : List ℕ → Type 0
ShowsNone image = (state : State) → ¬ Shows image state

-- it shows none to the program that knows version 1 alone
abbrev pub ShowsNoneOld : List ℕ → Type 0
ShowsNoneOld image = (state : State) → ¬ ShowsOld image state

-- the image has the store's length and begins with the mark
abbrev pub IsMarkedBy : List ℕ → List ℕ → Type 0
IsMarkedBy mark image = (length image ≡ DEVICE_LENGTH) × (take 8 image ≡ mark)

abbrev pub IsMarked : List ℕ → Type 0
IsMarked image = IsMarkedBy magic image

abbrev pub IsMarkedOld : List ℕ → Type 0
IsMarkedOld image = IsMarkedBy old_magic image

-- but for its first eight bytes the image is one from before, which began with one of these marks
abbrev pub IsOverMark : List (List ℕ) → (List ℕ → Type 0) → List ℕ → Type 0
IsOverMark marks before image =
    (earlier : List ℕ) × before earlier × Contains marks (take 8 earlier) × (drop 8 image ≡ drop 8 earlier)

-- What may be left of this mark where a store is laid out: an image from before, one from before with this mark in the
-- place of its own, or one that shows what is laid out.
abbrev pub MayBeMadeBy : List ℕ → (List ℕ → Type 0) → (List ℕ → Type 0) → List ℕ → Type 0
MayBeMadeBy mark shown before image = IsMarkedBy mark image → before image ⊎ IsOverMark marks before image ⊎ shown image

-- what may be left where a store of this state is laid out: of either mark as above, or no store
abbrev pub MayBeMade : State → (List ℕ → Type 0) → List ℕ → Type 0
MayBeMade state before image =
    MayBeMadeBy magic (λ c. Shows c state) before image × MayBeMadeBy old_magic (λ c. ShowsOld c state) before image
