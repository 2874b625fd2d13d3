-- A batch on its way to the device, call by call.
use Rattle.std.specs.Prelude.{◌≡◌, ◌≤◌, ◌⊎◌, ◌↔◌, ◌+◌, ℕ, IsTrue, List, [], ◌∷◌, length}
use Rattle.apd_base.specs.State.{State}
use Rattle.apd_record.specs.Meaning.{meaning_of}
use Rattle.apd_record.specs.Record.{records_of}
use Rattle.apd_record.specs.declared.change.Change.{Change}
use Rattle.apd_table.specs.Sound.{StaySound}
use Rattle.apd_disk.specs.Disk.{Only, with_bytes, DiskModel}
use Rattle.apd_journal.specs.Half.{IsGroup, planned_bytes}
use Rattle.apd_journal.specs.declared.writer.TheConstants.{HALF_LENGTH}
use Rattle.apd_store.specs.Image.{HasOpenGate, IsCurrent, Shows}
use Rattle.apd_store.specs.Layout.{image_of, AreParts, AreTorn, IsFound}
use Rattle.apd_store.specs.Switch.{IsSwitching}
use Rattle.apd_store.specs.declared.half.Half.{Half}
use Rattle.apd_store.specs.declared.phase.Phase.{Phase}
use Rattle.apd_store.specs.declared.phase.Phase.TheVariants.{Idle, CloseOther, SyncClosed, WriteHalf, SyncHalf, OpenHalf, SyncOpened, WriteGroup, SyncGroup, OpenGate, SyncGate, Done, Failed}
use Rattle.apd_store.specs.declared.store.Store.{Store}

-- the half with the group behind its closed gate, and then with that gate open
abbrev pub with_group : List ℕ → ℕ → List Change → List ℕ
with_group half gate group = with_bytes half (gate + 1) (planned_bytes group)

abbrev pub with_open_group : List ℕ → ℕ → List Change → List ℕ
with_open_group half gate group = with_bytes (with_group half gate group) gate (1 ∷ [])

-- what a read gives and what a stop may leave when this call of the batch is next
abbrev pub AtPhase : Phase → Half → List ℕ → List ℕ → List ℕ → ℕ → List Change → List ℕ → (List ℕ → Type 0) → Type 0
AtPhase WriteGroup side reserved half other gate group reads images =
    (reads ≡ image_of side reserved half other) × Only reads images
AtPhase SyncGroup side reserved half other gate group reads images =
    (reads ≡ image_of side reserved (with_group half gate group) other)
    × AreTorn side reserved half other (gate + 1) (length (planned_bytes group)) images
AtPhase OpenGate side reserved half other gate group reads images =
    (reads ≡ image_of side reserved (with_group half gate group) other) × Only reads images
AtPhase SyncGate side reserved half other gate group reads images =
    (reads ≡ image_of side reserved (with_open_group half gate group) other)
    × AreTorn side reserved (with_group half gate group) other gate 1 images
AtPhase Done side reserved half other gate group reads images =
    (reads ≡ image_of side reserved (with_open_group half gate group) other) × Only reads images
AtPhase Idle side reserved half other gate group reads images = ⊥
AtPhase CloseOther side reserved half other gate group reads images = ⊥
AtPhase SyncClosed side reserved half other gate group reads images = ⊥
AtPhase WriteHalf side reserved half other gate group reads images = ⊥
AtPhase SyncHalf side reserved half other gate group reads images = ⊥
AtPhase OpenHalf side reserved half other gate group reads images = ⊥
AtPhase SyncOpened side reserved half other gate group reads images = ⊥
AtPhase Failed side reserved half other gate group reads images = ⊥

-- no batch is begun, and what a read gives, which is all that a stop may leave, shows the state
pub record IsIdle {D : Type 0} (disk : DiskModel D) (store : Store D)
    (state : State) : Type 0 where
  pub found : IsFound (disk.reads store.device) store.half store.epoch store.gate store.other_open state
  pub durable : Only (disk.reads store.device) (disk.may_leave store.device)
  pub phase : store.phase ≡ Idle

-- the group of a batch is on its way behind the closed gate of the current half
pub record IsWriting {D : Type 0} (disk : DiskModel D) (store : Store D)
    (state after : State) : Type 0 where
  pub reserved : List ℕ
  pub half : List ℕ
  pub other : List ℕ
  pub parts : AreParts reserved half other
  pub current : IsCurrent half other store.gate state
  pub epoch_is : current.epoch ≡ store.epoch
  pub gate_is : IsTrue store.other_open ↔ HasOpenGate other
  pub group : IsGroup store.batch.changes
  pub sound : StaySound store.batch.changes state
  pub after_is : meaning_of store.batch.changes state ≡ after
  pub room : store.gate + length (records_of store.batch.changes) + 6 ≤ HALF_LENGTH
  pub place : store.plan.place ≡ store.gate + 1
  pub bytes : store.plan.bytes ≡ planned_bytes store.batch.changes
  pub at : AtPhase store.phase store.half reserved half other store.gate store.batch.changes (disk.reads store.device)
      (disk.may_leave store.device)

-- A batch of no changes is begun. It has no call and leaves the state, and the next group's gate is the closed one.
pub record IsWithoutCalls {D : Type 0} (disk : DiskModel D) (store : Store D)
    (state after : State) : Type 0 where
  pub found : IsFound (disk.reads store.device) store.half store.epoch store.gate store.other_open state
  pub durable : Only (disk.reads store.device) (disk.may_leave store.device)
  pub phase : store.phase ≡ Done
  pub none : store.batch.changes ≡ []
  pub after_is : state ≡ after
  pub place : store.plan.place ≡ store.gate + 1
  pub bytes : store.plan.bytes ≡ []

-- a batch is on its way from one state to the next: its switch, and then its group; or it has no changes
abbrev pub IsCommitting : {D : Type 0} → DiskModel D → Store D → State → State → Type 0
IsCommitting disk store state after =
    IsSwitching disk store state after ⊎ IsWriting disk store state after ⊎ IsWithoutCalls disk store state after

-- what a stop may show within a call where as many calls of the batch are left, itself among them
abbrev pub MayShow : ℕ → State → State → List ℕ → Type 0
MayShow calls state after image = Shows image state ⊎ ((calls ≤ 2) × Shows image after)

-- a call of a batch has failed, and a stop leaves the state before the batch or the one after
pub record HasFailed {D : Type 0} (disk : DiskModel D) (store : Store D)
    (state after : State) : Type 0 where
  pub phase : store.phase ≡ Failed
  pub shows : (c : List ℕ) → disk.may_leave store.device c → Shows c state ⊎ Shows c after

-- the group of these changes fits behind the closed gate, with the next gate inside the half
abbrev pub Fits : {D : Type 0} → Store D → List Change → Type 0
Fits store changes = store.gate + length (records_of changes) + 6 ≤ HALF_LENGTH

-- there is room for these changes: there are none, or their group fits
abbrev pub HasRoom : {D : Type 0} → Store D → List Change → Type 0
HasRoom store changes = (changes ≡ []) ⊎ Fits store changes
