-- Why a script did not end.
use Rattle.std.specs.Prelude.{◌≡◌, ◌⊎◌, ℕ, ◌+◌, ◌*◌, ⊤, List, ◌++◌, ◌∷◌, length, map, Option, None, Some, IfSome}
use Rattle.apd_base.specs.Failures.{HasRisen}
use Rattle.apd_base.specs.Text.{lines}
use Rattle.apd_conf.specs.declared.conf.Conf.{Conf}
use Rattle.apd_disk.specs.Disk.{DiskModel}
use Rattle.apd_radio.specs.Model.{RadioModel}
use Rattle.apd_slot.specs.Slots.{bssid_of}
use Rattle.apd_slot.specs.declared.slot.Slot.{Slot}
use Rattle.apd_store.specs.declared.fault.StoreFault.TheVariants as store_fault
use Rattle.apd_world.specs.BegunAnew.{IsNotBegunAnew}
use Rattle.apd_world.specs.Ending.{HasEnded, HasFailedCore, HasMetNoRefusal}
use Rattle.apd_world.specs.Outside.{device_of}
use Rattle.apd_world.specs.Proper.{IsWhole}
use Rattle.apd_world.specs.Resumed.{EndsAtSlot}
use Rattle.apd_world.specs.WorldParts.{durable_of}
use Rattle.apd_world.specs.declared.fault.WorldFault.{WorldFault}
use Rattle.apd_world.specs.declared.fault.WorldFault.TheVariants as world_fault
use Rattle.apd_world.specs.declared.world.World.{World}
use Rattle.apd_script.specs.Lines.{Said, Empty, Take, Call, Publish, Hand, Flush, Stop, Says, IsBad, IsNotPossible}
use Rattle.apd_script.specs.Script.{IsBegun, IsBegunFrom, IsRun, IsScriptRun, Restarts, Starts, confs_of}
use Rattle.apd_script.specs.declared.script.fault.ScriptFault.{ScriptFault}
use Rattle.apd_script.specs.declared.script.fault.ScriptFault.TheVariants as fault
use Rattle.apd_script.specs.declared.script.runner.Runner.{Runner}

-- ---- of a call that reads, or prints
-- the reader failed, or has too much, or memory ran out
abbrev pub IsUnread : ScriptFault → Type 0
IsUnread fault.Reader = ⊤
IsUnread fault.NoMemory = ⊤
IsUnread why = ⊥

-- the writer failed, or memory ran out
abbrev pub IsUnwritten : ScriptFault → Type 0
IsUnwritten fault.Writer = ⊤
IsUnwritten fault.NoMemory = ⊤
IsUnwritten why = ⊥

-- why this was not done, or done and not printed; the world may refuse it so
abbrev pub IsUndone : Type 0 → (WorldFault → Type 0) → ScriptFault → Type 0
IsUndone this refused fault.Writer = this
IsUndone this refused (fault.World why) = refused why
IsUndone this refused fault.NoMemory = ⊤
IsUndone this refused fault.Reader = ⊥
IsUndone this refused (fault.BadLine n) = ⊥

-- the world refuses none of it
abbrev pub IsNoRefusal : WorldFault → Type 0
IsNoRefusal why = ⊥

module _ {D R : Type 0} (disk : DiskModel D) (radio : RadioModel R) where
  -- ---- of a world
  -- a start or a flush of a world ended with this fault
  pub record IsEndedBy (why : WorldFault) (old new : World D R) : Type 0 where
    pub ended : HasEnded disk radio why old new
    pub core : IsWhole disk (durable_of old) → HasFailedCore why new

  -- a hand of a world ended, for want of memory
  pub record IsShort (why : WorldFault) (old new : World D R) : Type 0 where
    pub memory : why ≡ world_fault.NoMemory
    pub gone : HasMetNoRefusal disk radio old new

  -- what a device holds is no store, or not read, or a slot of these interfaces did not resume by it, or memory ran out
  abbrev pub IsBeginningFault : WorldFault → D → D → List Conf → Type 0
  IsBeginningFault (world_fault.Store why) device left confs =
      (why ≡ store_fault.NotAStore) ⊎ (why ≡ store_fault.OldVersion) ⊎ (why ≡ store_fault.Damaged) ⊎ (why ≡ store_fault.Device)
      ⊎ (why ≡ store_fault.NoMemory)
  IsBeginningFault (world_fault.Slot b why) device left confs =
      (slots : List (Slot R)) × (after : List (Slot R)) × (map bssid_of slots ≡ map (λ conf. conf.bssid) confs)
      × EndsAtSlot disk radio device left b why slots after
  IsBeginningFault world_fault.NoSlot device left confs = ⊥
  IsBeginningFault world_fault.NoMemory device left confs = ⊤

  -- no world of these interfaces was begun from what a device reads
  pub record IsNotBegunFrom (why : WorldFault) (device : D) (confs : List Conf) : Type 0 where
    pub left : D
    pub refused : IsNotBegunAnew disk device left why
    pub one : IsBeginningFault why device left confs

  -- which the world alone tells
  abbrev pub IsBeginFault : D → List Conf → ScriptFault → Type 0
  IsBeginFault device confs (fault.World why) = IsNotBegunFrom why device confs
  IsBeginFault device confs why = ⊥

  -- the refusal of the store that was kept since the last start
  abbrev pub IsKept : WorldFault → Runner D R → Type 0
  IsKept (world_fault.Store why) s = s.refusal ≡ Some why
  IsKept why s = ⊥

  -- ---- of a line
  -- how the world refuses a flush: by what is kept, else by its own
  abbrev pub IsFlushRefused : WorldFault → Runner D R → World D R → Type 0
  IsFlushRefused why s new = IsKept why s ⊎ ((s.refusal ≡ None) × IsEndedBy why s.world new)

  -- how it refuses what a line says; a stop where none is begun from the device, or that one is not started
  abbrev pub IsRefused : Said → WorldFault → Runner D R → Type 0
  IsRefused Hand why s = (new : World D R) × IsShort why s.world new
  IsRefused Flush why s = (new : World D R) × IsFlushRefused why s new
  IsRefused Stop why s =
      IsNotBegunFrom why (device_of (durable_of s.world)) (confs_of s)
      ⊎ ((mid : Runner D R) × Restarts disk radio s mid × ((new : World D R) × IsEndedBy why mid.world new))
  IsRefused what why s = ⊥

  -- what a line says was done, of a stop as far as a world was begun, and is one that prints
  abbrev pub IsDoneToPrint : ℕ → Said → Runner D R → Type 0
  IsDoneToPrint n Empty s = ⊥
  IsDoneToPrint n Take s = ⊥
  IsDoneToPrint n Call s = ⊥
  IsDoneToPrint n Publish s = ⊥
  IsDoneToPrint n Stop s = (new : Runner D R) × Restarts disk radio s new
  IsDoneToPrint n what s = (new : Runner D R) × IsRun disk radio n what s new

  -- why what a line says was not done, or not printed
  abbrev pub IsSaidFault : ℕ → Said → Runner D R → ScriptFault → Type 0
  IsSaidFault n what s (fault.BadLine k) = (k ≡ n) × IsNotPossible (confs_of s) (length s.spares.items) what
  IsSaidFault n what s fault.Reader = ⊥
  IsSaidFault n what s fault.Writer = IsDoneToPrint n what s
  IsSaidFault n what s (fault.World why) = IsRefused what why s
  IsSaidFault n what s fault.NoMemory = ⊤

  -- the same of a text: it is bad, or it says something that was not done
  abbrev pub IsLineFault : ℕ → List ℕ → Runner D R → ScriptFault → Type 0
  IsLineFault n text s (fault.BadLine k) = (k ≡ n) × IsBad (confs_of s) (length s.spares.items) text
  IsLineFault n text s fault.NoMemory = ⊤
  IsLineFault n text s why = (what : Said) × Says text what × IsSaidFault n what s why

  -- ---- of a script
  -- why its interfaces were not started, or that not printed
  abbrev pub IsStartFault : Runner D R → ScriptFault → Type 0
  IsStartFault s (fault.BadLine n) = ⊥
  IsStartFault s fault.Reader = ⊥
  IsStartFault s fault.Writer = (new : Runner D R) × Starts disk radio s new
  IsStartFault s (fault.World why) = (new : World D R) × IsEndedBy why s.world new
  IsStartFault s fault.NoMemory = ⊤

  -- so far its interfaces are started, and these lines are run, which where it is known what the reader gives are its first
  pub record IsRunTo (known : Option (List ℕ)) (radios : List R) (old : World D R) (front : List (List ℕ)) : Type 0 where
    pub behind : List (List ℕ)
    pub whole : IfSome known (λ script. lines script ≡ front ++ behind)
    pub last : Runner D R
    pub run : IsScriptRun disk radio front old radios last

  -- all lines in front of line n are run, which is this one
  pub record IsAt (n : ℕ) (known : Option (List ℕ)) (radios : List R) (old : World D R) : Type 0 where
    pub front : List (List ℕ)
    pub text : List ℕ
    pub behind : List (List ℕ)
    pub whole : IfSome known (λ script. lines script ≡ front ++ text ∷ behind)
    pub number : n ≡ length front + 1
    pub last : Runner D R
    pub run : IsScriptRun disk radio front old radios last

  -- all lines in front of line n are run, and this one is bad
  pub record IsBadAt (n : ℕ) (known : Option (List ℕ)) (radios : List R) (old : World D R) : Type 0 where
    pub line : IsAt n known radios old
    pub is_bad : IsBad (confs_of line.last) (length line.last.spares.items) line.text

  -- and what it says was done, and could not be printed
  pub record IsUnprintedAt (n : ℕ) (known : Option (List ℕ)) (radios : List R) (old : World D R) : Type 0 where
    pub line : IsAt n known radios old
    pub what : Said
    pub says : Says line.text what
    pub done : IsDoneToPrint n what line.last

  -- and the world refused what it says; where the device's failure was kept, its failures have risen
  pub record IsRefusedAt (n : ℕ) (why : WorldFault) (known : Option (List ℕ)) (radios : List R) (old : World D R) : Type 0 where
    pub line : IsAt n known radios old
    pub what : Said
    pub says : Says line.text what
    pub refused : IsRefused what why line.last
    pub risen : line.last.refusal ≡ Some store_fault.Device
        → HasRisen (disk.failed (device_of (durable_of old))) (disk.failed (device_of (durable_of line.last.world)))

  -- the interfaces were started, which could not be printed
  pub record IsStartUnprinted (radios : List R) (old : World D R) : Type 0 where
    pub first : Runner D R
    pub begun : IsBegun old radios first
    pub started : Runner D R
    pub starts : Starts disk radio first started

  -- why a script did not end: of a bad line it is told which
  abbrev pub IsFault : Option (List ℕ) → List R → World D R → ScriptFault → Type 0
  IsFault known radios old (fault.BadLine n) = IsBadAt n known radios old
  IsFault known radios old fault.Reader = (front : List (List ℕ)) × IsRunTo known radios old front
  IsFault known radios old fault.Writer = IsStartUnprinted radios old ⊎ ((n : ℕ) × IsUnprintedAt n known radios old)
  IsFault known radios old (fault.World why) =
      ((new : World D R) × IsEndedBy why old new) ⊎ ((n : ℕ) × IsRefusedAt n why known radios old)
  IsFault known radios old fault.NoMemory = ⊤

  -- ---- on the store of a device
  -- a world was begun from it, as where the script ends, and from there it did not end, for this reason
  pub record IsEndedOn (stops : ℕ) (device : D) (confs : List Conf) (known : Option (List ℕ)) (why : ScriptFault) : Type 0 where
    pub first : World D R
    pub begun : IsBegunFrom disk radio (record { 0 = 0 }) device confs first
    pub radios : List R
    pub enough : length radios ≡ stops * length confs
    pub fault : IsFault known radios first why

  -- or none was begun
  abbrev pub IsFaultOn : ℕ → D → List Conf → Option (List ℕ) → ScriptFault → Type 0
  IsFaultOn stops device confs known (fault.World why) =
      IsNotBegunFrom why device confs ⊎ IsEndedOn stops device confs known (fault.World why)
  IsFaultOn stops device confs known fault.NoMemory = ⊤
  IsFaultOn stops device confs known why = IsEndedOn stops device confs known why
