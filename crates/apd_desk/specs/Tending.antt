-- What is done to a slot for which outs wait (own).
use Rattle.std.specs.Prelude.{◌≢◌, ℕ, Bool, List, Option}
use Rattle.apd_radio.specs.Model.{RadioModel}
use Rattle.apd_slot.specs.Mending.{GoesOn}
use Rattle.apd_slot.specs.Slots.{is_up_of}
use Rattle.apd_slot.specs.declared.mending.Mending.{Mending}
use Rattle.apd_slot.specs.declared.slot.Slot.{Slot}
use Rattle.apd_steps.specs.Serving.{EndsMended, GoOn, IsMended, IsTended}
use Rattle.apd_desk.specs.declared.idle.Progress.{Progress}
use Rattle.apd_desk.specs.declared.idle.Progress.TheVariants.{Short}

module _ {R : Type 0} (radio : RadioModel R) (frames : R → Option (List (List ℕ))) where
  -- it went on to be mended; a try in vain is told as `Short`
  abbrev pub HasGoneOn : Progress → Slot R → Slot R → Mending R → Mending R → Type 0
  HasGoneOn progress old new mending left = (tried : Bool) × GoesOn radio frames tried mending left old new
      × (progress ≢ Short → IsMended (GoOn tried (is_up_of new)))

  -- behind steps that end so, some more lead on
  abbrev pub TendsOn : Slot R → Slot R → Mending R → Mending R → Type 0
  TendsOn old new mending left = (from : Slot R) (begun : Mending R) (run : IsTended radio frames from old begun mending)
      → EndsMended run.steps → IsTended radio frames from new begun left
