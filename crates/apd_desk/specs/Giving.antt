-- What a radio's worker does to its slot (own).
use Rattle.std.specs.Prelude.{◌≡◌, ◌++◌, List}
use Rattle.apd_mlme.specs.declared.decision.Out.{Out}
use Rattle.apd_radio.specs.Model.{RadioModel}
use Rattle.apd_slot.specs.Slots.{bssid_of, queue_of, wanted_of, wanted_then, IsExact}
use Rattle.apd_slot.specs.Wanted.{wanted_after_all}
use Rattle.apd_slot.specs.declared.slot.Slot.{Slot}

-- these outs were collected for the slot
pub record IsServed {R : Type 0} (radio : RadioModel R) (collected : List Out) (old new : Slot R) : Type 0 where
  pub bssid : bssid_of new ≡ bssid_of old
  pub exact : IsExact radio old → IsExact radio new
  pub applied : List Out
  -- what was there and what was collected was applied or waits, in order
  pub in_order : queue_of old ++ collected ≡ applied ++ queue_of new
  -- and what was applied is all that changed what is wanted
  pub wanted : wanted_of new ≡ wanted_after_all applied (wanted_of old)
  -- so nothing was applied behind a hole: once all that waits is applied, what is wanted is what would have been, and
  -- then what was collected
  pub all_then : wanted_then new ≡ wanted_after_all collected (wanted_then old)

abbrev pub IsGivenOn : {R : Type 0} → RadioModel R → Slot R → Slot R → Type 0
IsGivenOn radio old new = (collected : List Out) × IsServed radio collected old new
