-- An image by its current half.
use Rattle.std.specs.Prelude.{◌≡◌, ◌↔◌, ℕ, Bool, IsTrue, List, [], ◌∷◌, ◌++◌, length, take, drop}
use Rattle.apd_base.specs.declared.limits.TheConstants.{DEVICE_LENGTH}
use Rattle.apd_base.specs.State.{State}
use Rattle.apd_journal.specs.declared.writer.TheConstants.{HALF_LENGTH}
use Rattle.apd_disk.specs.Disk.{TornWithin}
use Rattle.apd_store.specs.Image.{magic, HasNoCursor, HasOpenGate, HalfShows, IsCurrent}
use Rattle.apd_store.specs.declared.half.Half.{Half}
use Rattle.apd_store.specs.declared.half.Half.TheVariants.{A, B}

-- the place of a half's first byte
abbrev pub start_of : Half → ℕ
start_of A = 64
start_of B = 1048640

-- the image of this mark with this half on its side, beside the other
abbrev pub image_by : List ℕ → Half → List ℕ → List ℕ → List ℕ → List ℕ
image_by mark A reserved half other = mark ++ (reserved ++ (half ++ other))
image_by mark B reserved half other = mark ++ (reserved ++ (other ++ half))

abbrev pub image_of : Half → List ℕ → List ℕ → List ℕ → List ℕ
image_of side reserved half other = image_by magic side reserved half other

-- they have the lengths of a store's parts
pub record AreParts (reserved half other : List ℕ) : Type 0 where
  pub reserved_length : length reserved ≡ 56
  pub half_length : length half ≡ HALF_LENGTH
  pub other_length : length other ≡ HALF_LENGTH

-- the other half's side
abbrev pub opposite : Half → Half
opposite A = B
opposite B = A

-- each image has this half torn in a range, and nothing else
abbrev pub AreTorn : Half → List ℕ → List ℕ → List ℕ → ℕ → ℕ → (List ℕ → Type 0) → Type 0
AreTorn side reserved half other place n images = (c : List ℕ) → images c
    → (h : List ℕ) × TornWithin place n half h × (c ≡ image_of side reserved h other)

-- The half on this side is the current one, with this epoch, and shows the state up to its closed gate at this
-- place; and whether the other half's gate is open.
pub record IsFoundBy (mark image : List ℕ) (side : Half) (epoch gate : ℕ) (other_open : Bool)
    (state : State) : Type 0 where
  pub reserved : List ℕ
  pub half : List ℕ
  pub other : List ℕ
  pub parts : AreParts reserved half other
  pub is : image ≡ image_by mark side reserved half other
  pub current : IsCurrent half other gate state
  pub epoch_is : current.epoch ≡ epoch
  pub gate_is : IsTrue other_open ↔ HasOpenGate other

abbrev pub IsFound : List ℕ → Half → ℕ → ℕ → Bool → State → Type 0
IsFound image side epoch gate other_open state = IsFoundBy magic image side epoch gate other_open state

-- the half shows the state without a cursor's change, so that it does in either version
abbrev pub HalfShowsPlainly : List ℕ → ℕ → ℕ → State → Type 0
HalfShowsPlainly half epoch gate state = (shows : HalfShows half epoch gate state) × HasNoCursor shows.changes

-- a half that begins with these bytes shows the state so, whatever stands behind them
abbrev pub BeginsBy : List ℕ → ℕ → ℕ → State → Type 0
BeginsBy head epoch gate state = (rest : List ℕ) → HalfShowsPlainly (head ++ rest) epoch gate state

-- the half's gate is 0
abbrev pub HasZeroGate : List ℕ → Type 0
HasZeroGate half = take 1 half ≡ 0 ∷ []

-- but for its mark the image is a store of either version: half A shows the state, and half B is closed
pub record IsLaidOut (image : List ℕ) (epoch gate : ℕ) (state : State) : Type 0 where
  pub size : length image ≡ DEVICE_LENGTH
  pub shows : HalfShowsPlainly (take HALF_LENGTH (drop 64 image)) epoch gate state
  pub closed : HasZeroGate (drop HALF_LENGTH (drop 64 image))

-- eight zeros, which mark nothing
abbrev pub blank_mark : List ℕ
blank_mark = 0 ∷ 0 ∷ 0 ∷ 0 ∷ 0 ∷ 0 ∷ 0 ∷ 0 ∷ []

-- half A of a new store: open, epoch 1, an empty snapshot and a closed gate
abbrev pub head_a : List ℕ
head_a = 1 ∷ 1 ∷ 0 ∷ 0 ∷ 0 ∷ 0 ∷ 0 ∷ 0 ∷ 0 ∷ 0 ∷ 0 ∷ 0 ∷ 0 ∷ 0 ∷ []
