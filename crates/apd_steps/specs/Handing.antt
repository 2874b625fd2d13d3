-- What is handed to a slot (own).
use Rattle.std.specs.Prelude.{◌≡◌, ◌≤◌, ◌++◌, ℕ, List, length, Result, Ok, Err}
use Rattle.std.specs.declared.alloc.AllocError.{AllocError}
use Rattle.apd_base.specs.declared.address.Bssid.{Bssid}
use Rattle.apd_core.specs.Core.{CoreState, after_handing_out, ready_for}
use Rattle.apd_mlme.specs.declared.decision.Out.{Out}
use Rattle.apd_mlme.specs.declared.decision.Recipient.TheVariants.{Radio}
use Rattle.apd_slot.specs.Slots.{SameButQueue, SameButRoom, queue_of, wanted_then}
use Rattle.apd_slot.specs.Wanted.{wanted_after_all}
use Rattle.apd_slot.specs.declared.slot.Slot.{Slot}

-- outs go behind those that wait
pub record AreQueued {R : Type 0} (outs : List Out) (old new : Slot R) : Type 0 where
  pub queue : queue_of new ≡ queue_of old ++ outs
  pub wanted_then : wanted_then new ≡ wanted_after_all outs (wanted_then old)
  pub same : SameButQueue old new

-- what is ready for a radio goes to its slot, and its count is told; or memory is lacking, and some is ready
abbrev pub HandsTo : {R : Type 0} → Bssid → Result ℕ AllocError → CoreState → CoreState → Slot R → Slot R → Type 0
HandsTo b (Ok count) core after old new =
    (count ≡ length (ready_for (Radio b) core)) × (after ≡ after_handing_out (Radio b) core)
    × AreQueued (ready_for (Radio b) core) old new
HandsTo b (Err short) core after old new =
    (1 ≤ length (ready_for (Radio b) core)) × (after ≡ core) × SameButRoom old new
