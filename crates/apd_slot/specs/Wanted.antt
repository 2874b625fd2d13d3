-- The stations that a radio should have, those that it has, and the frames that it was handed, after the outs that it was
-- given (own).
use Rattle.std.specs.Prelude.{ℕ, Bool, true, false, List, [], ◌∷◌, Option, Result, Ok, Err}
use Rattle.std.specs.FinMap as map
use Rattle.apd_base.specs.Addr.{addr_cmp}
use Rattle.apd_mlme.specs.declared.decision.Out.{Out}
use Rattle.apd_mlme.specs.declared.decision.Out.TheVariants.{Install, Remove, Frame, Text}
use Rattle.apd_radio.specs.Frames.{and_then}
use Rattle.apd_slot.specs.declared.slot.SlotFault.{SlotFault}
use Rattle.apd_slot.specs.declared.slot.SlotFault.TheVariants.{WentDown, Lost, NotMine, NoMemory}

-- stations, with their association identifiers
abbrev pub Stations : Type 0
Stations = map.FinMap addr_cmp ℕ

-- the stations that are wanted after an out
abbrev pub wanted_after : Out → Stations → Stations
wanted_after (Install a aid) wanted = map.insert wanted a aid.number
wanted_after (Remove a) wanted = map.remove wanted a
wanted_after (Frame bytes) wanted = wanted
wanted_after (Text tag text) wanted = wanted

-- after outs, one after the other
abbrev pub wanted_after_all : List Out → Stations → Stations
wanted_after_all [] wanted = wanted
wanted_after_all (out ∷ outs) wanted = wanted_after_all outs (wanted_after out wanted)

-- those that are wanted once an out was answered: one that met want of memory was not taken, any other was
abbrev pub wanted_by : Out → Result (Unit {0}) SlotFault → Stations → Stations
wanted_by out (Ok done) wanted = wanted_after out wanted
wanted_by out (Err WentDown) wanted = wanted_after out wanted
wanted_by out (Err Lost) wanted = wanted_after out wanted
wanted_by out (Err NotMine) wanted = wanted_after out wanted
wanted_by out (Err NoMemory) wanted = wanted

-- those that the radio has once an out was answered: a slot that is down asks nothing of it, and a fault leaves it
abbrev pub installed_by : Out → Result (Unit {0}) SlotFault → Bool → Stations → Stations
installed_by out (Ok done) true installed = wanted_after out installed
installed_by out (Ok done) false installed = installed
installed_by out (Err fault) is_up installed = installed

-- the frames that the radio was handed and took, once an out was answered: a frame that is answered well is one more
abbrev pub sent_by : Out → Result (Unit {0}) SlotFault → Option (List (List ℕ)) → Option (List (List ℕ))
sent_by (Frame bytes) (Ok done) sent = and_then sent bytes
sent_by (Frame bytes) (Err fault) sent = sent
sent_by (Install a aid) answer sent = sent
sent_by (Remove a) answer sent = sent
sent_by (Text tag text) answer sent = sent

-- whether the slot is up once an out was answered
abbrev pub up_by : Result (Unit {0}) SlotFault → Bool → Bool
up_by (Ok done) is_up = is_up
up_by (Err WentDown) is_up = false
up_by (Err Lost) is_up = is_up
up_by (Err NotMine) is_up = is_up
up_by (Err NoMemory) is_up = is_up

-- the kinds of out
abbrev pub IsFrame : Out → Type 0
IsFrame (Install a aid) = ⊥
IsFrame (Remove a) = ⊥
IsFrame (Frame bytes) = Unit {0}
IsFrame (Text tag text) = ⊥

abbrev pub IsText : Out → Type 0
IsText (Install a aid) = ⊥
IsText (Remove a) = ⊥
IsText (Frame bytes) = ⊥
IsText (Text tag text) = Unit {0}

abbrev pub IsRemoval : Out → Type 0
IsRemoval (Install a aid) = ⊥
IsRemoval (Remove a) = Unit {0}
IsRemoval (Frame bytes) = ⊥
IsRemoval (Text tag text) = ⊥
