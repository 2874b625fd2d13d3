-- What is handed to a slot (own).
use Rattle.std.specs.Prelude.{◌≡◌, List, length}
use Rattle.apd_world.specs.Words.{Bssid, DurableCore, Hand, Handed, NoMemory, Out, Queued, Radio, SameButRoom, Slot, Told}
pub use Rattle.apd_steps.specs.Handing.{AreQueued}
use Rattle.apd_world.specs.Run.{IsStep}
use Rattle.apd_world.specs.Telling.{HasReady}

-- what is ready for a radio goes to its slot, and its count is told; or memory is lacking, and some is ready
abbrev pub QueuesReady : {D R : Type 0} → Bssid → Told → DurableCore D → DurableCore D → Slot R → Slot R → Type 0
QueuesReady b (Queued count) old new slot after = (outs : List Out) × IsStep (Hand (Radio b)) (Handed outs) old new
    × (count ≡ length outs) × AreQueued outs slot after
QueuesReady b NoMemory old new slot after = HasReady (Radio b) old.core × (new ≡ old) × SameButRoom slot after
QueuesReady b told old new slot after = ⊥
