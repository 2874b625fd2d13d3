-- A switch on its way to the device, call by call: the other half begins anew with the table before the batch, while
-- the current half stays as it is. Whatever call is next, each image shows that table.
use Rattle.std.specs.Prelude.{◌≡◌, ◌<◌, ◌≤◌, ◌+◌, ◌^◌, ℕ, List, [], ◌∷◌, length}
use Rattle.apd_base.specs.State.{State, empty_state}
use Rattle.apd_record.specs.Meaning.{meaning_of}
use Rattle.apd_record.specs.Ranges.{AreChanges}
use Rattle.apd_record.specs.Record.{records_of}
use Rattle.apd_record.specs.declared.change.Change.{Change}
use Rattle.apd_table.specs.Snapshot.{canonical}
use Rattle.apd_table.specs.Sound.{StaySound}
use Rattle.apd_table.specs.declared.snapshot.TheConstants.{MAX_SNAPSHOT}
use Rattle.apd_disk.specs.Disk.{Only, with_bytes, DiskModel}
use Rattle.apd_journal.specs.Half.{IsGroup, begun_bytes, planned_bytes}
use Rattle.apd_journal.specs.declared.writer.TheConstants.{HALF_LENGTH}
use Rattle.apd_store.specs.Image.{HasOpenGate, IsCurrent}
use Rattle.apd_store.specs.Layout.{image_of, opposite, AreParts, AreTorn}
use Rattle.apd_store.specs.declared.half.Half.{Half}
use Rattle.apd_store.specs.declared.phase.Phase.{Phase}
use Rattle.apd_store.specs.declared.phase.Phase.TheVariants.{Idle, CloseOther, SyncClosed, WriteHalf, SyncHalf, OpenHalf, SyncOpened, WriteGroup, SyncGroup, OpenGate, SyncGate, Done, Failed}
use Rattle.apd_store.specs.declared.store.Store.{Store}

-- a half with its gate closed; with the bytes behind its gate; and then with that gate open
abbrev pub with_closed_gate : List ℕ → List ℕ
with_closed_gate half = with_bytes half 0 (0 ∷ [])

abbrev pub with_snapshot : List ℕ → List ℕ → List ℕ
with_snapshot half bytes = with_bytes half 1 bytes

abbrev pub with_open_snapshot : List ℕ → List ℕ → List ℕ
with_open_snapshot half bytes = with_bytes (with_snapshot half bytes) 0 (1 ∷ [])

-- What a read gives and what a stop may leave when this call of a switch to the half on this side is next. The half was
-- this one before the last write to it, and these bytes go behind its gate; the other one, which is current, stays.
abbrev pub AtSwitch : Phase → Half → List ℕ → List ℕ → List ℕ → List ℕ → List ℕ → (List ℕ → Type 0) → Type 0
AtSwitch CloseOther side reserved half current bytes reads images =
    HasOpenGate half × (reads ≡ image_of side reserved half current) × Only reads images
AtSwitch SyncClosed side reserved half current bytes reads images =
    HasOpenGate half × (reads ≡ image_of side reserved (with_closed_gate half) current)
    × AreTorn side reserved half current 0 1 images
AtSwitch WriteHalf side reserved half current bytes reads images =
    (¬ HasOpenGate half) × (reads ≡ image_of side reserved half current) × Only reads images
AtSwitch SyncHalf side reserved half current bytes reads images =
    (¬ HasOpenGate half) × (reads ≡ image_of side reserved (with_snapshot half bytes) current)
    × AreTorn side reserved half current 1 (length bytes) images
AtSwitch OpenHalf side reserved half current bytes reads images =
    (¬ HasOpenGate half) × (reads ≡ image_of side reserved (with_snapshot half bytes) current) × Only reads images
AtSwitch SyncOpened side reserved half current bytes reads images =
    (¬ HasOpenGate half) × (reads ≡ image_of side reserved (with_open_snapshot half bytes) current)
    × AreTorn side reserved (with_snapshot half bytes) current 0 1 images
AtSwitch Idle side reserved half current bytes reads images = ⊥
AtSwitch WriteGroup side reserved half current bytes reads images = ⊥
AtSwitch SyncGroup side reserved half current bytes reads images = ⊥
AtSwitch OpenGate side reserved half current bytes reads images = ⊥
AtSwitch SyncGate side reserved half current bytes reads images = ⊥
AtSwitch Done side reserved half current bytes reads images = ⊥
AtSwitch Failed side reserved half current bytes reads images = ⊥

-- the changes lead from the empty state to this one, by sound ones, and a half has room for them and a group
pub record IsSnapshot (changes : List Change) (state : State) : Type 0 where
  pub are : AreChanges changes
  pub sound : StaySound changes empty_state
  pub leads : meaning_of changes empty_state ≡ state
  pub size : length (records_of changes) ≤ MAX_SNAPSHOT

-- the group of these changes fits in a half that begins anew: the closed gate behind the snapshot of the state is at
-- place 13 + its length, and the next gate is inside the half
abbrev pub FitsAnew : State → List Change → Type 0
FitsAnew state changes = (13 + length (records_of (canonical state))) + length (records_of changes) + 6 ≤ HALF_LENGTH

-- a switch is on its way, before the batch that leads from one state to the next
pub record IsSwitching {D : Type 0} (disk : DiskModel D) (store : Store D)
    (state after : State) : Type 0 where
  pub reserved : List ℕ
  pub half : List ℕ
  pub other : List ℕ
  pub parts : AreParts reserved half other
  pub current : IsCurrent half other store.gate state
  pub epoch_is : current.epoch ≡ store.epoch
  pub epoch_fits : store.epoch + 1 < 2 ^ 64
  pub snapshot : IsSnapshot (canonical state) state
  pub begins_at : store.fresh.place ≡ 1
  pub begins_with : store.fresh.bytes ≡ begun_bytes (store.epoch + 1) (canonical state)
  pub group : IsGroup store.batch.changes
  pub sound : StaySound store.batch.changes state
  pub after_is : meaning_of store.batch.changes state ≡ after
  pub place : store.plan.place ≡ length store.fresh.bytes + 1
  pub bytes : store.plan.bytes ≡ planned_bytes store.batch.changes
  pub at : AtSwitch store.phase (opposite store.half) reserved other half store.fresh.bytes (disk.reads store.device)
      (disk.may_leave store.device)
