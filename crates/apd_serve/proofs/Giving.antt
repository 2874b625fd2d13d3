-- A slot that is given outs, step by step.
use Rattle.std.proofs.Common.{ℕ, List, Option, Result}
use Rattle.std.specs.declared.alloc.AllocError.{AllocError}
use Rattle.apd_radio.specs.Model.{RadioModel}
use Rattle.apd_slot.specs.Slots.{bssid_of}
use Rattle.apd_slot.specs.declared.mending.Mending.{Mending}
use Rattle.apd_slot.specs.declared.slot.Slot.{Slot}
use Rattle.apd_steps.specs.Calls.{no_core}
use Rattle.apd_steps.specs.Handing.{HandsTo}
use Rattle.apd_steps.specs.Serving.{IsRadioRun, IsTended}
use Rattle.apd_steps.proofs.ServingLemmas.{serve_none, serve_on, tended_beside}
use Rattle.apd_desk.proofs.Serving.{handed}
use Rattle.apd_desk.specs.Asking.{by_seat}
use Rattle.apd_desk.specs.declared.seat.Seat.{Seat}
use Rattle.apd_serve.specs.HandedOut.{IsHandedBy}

module _ {R : Type 0} (radio : RadioModel R) (frames : R → Option (List (List ℕ))) where
  pub tended_on : (old mid new : Slot R) (mending then left : Mending R) → IsTended radio frames old mid mending then
      → IsTended radio frames mid new then left → IsTended radio frames old new mending left
  tended_on old mid new mending then left first next = serve_on radio frames no_core tt tt tt old mid new mending then left first next

  module _ {L : Type 0} where
    pub handed_none : (seat : Seat L) (slot : Slot R) → IsHandedBy radio frames seat seat slot slot
    handed_none seat slot = λ mending. serve_none radio frames by_seat seat slot mending

    -- what is ready went to the slot, or memory is lacking
    pub handed_on : (told : Result ℕ AllocError) (seat later last : Seat L) (old mid new : Slot R) → IsHandedBy radio frames seat later old mid
        → by_seat (λ core after. HandsTo (bssid_of mid) told core after mid new) later last → IsHandedBy radio frames seat last old new
    handed_on told seat later last old mid new first hands =
        λ mending. serve_on radio frames by_seat seat later last old mid new mending mending mending (first mending)
        (handed radio frames by_seat told later last mid new mending hands)

    pub run_tended : (seat : Seat L) (old new : Slot R) (mending left : Mending R) → IsTended radio frames old new mending left
        → IsRadioRun radio frames by_seat seat seat old new mending left
    run_tended seat old new mending left tended = tended_beside radio frames by_seat seat old new mending left tended

    pub run_on : (seat later : Seat L) (old mid new : Slot R) (mending then left : Mending R)
        → IsRadioRun radio frames by_seat seat later old mid mending then → IsTended radio frames mid new then left
        → IsRadioRun radio frames by_seat seat later old new mending left
    run_on seat later old mid new mending then left first next =
        serve_on radio frames by_seat seat later later old mid new mending then left first (run_tended later mid new then left next)

    -- what waited was applied, and what is ready handed to the slot
    pub run_handed : (seat later : Seat L) (old mid new : Slot R) (mending then : Mending R) → IsTended radio frames old mid mending then
        → IsHandedBy radio frames seat later mid new → IsRadioRun radio frames by_seat seat later old new mending then
    run_handed seat later old mid new mending then first hands =
        serve_on radio frames by_seat seat seat later old mid new mending then then (run_tended seat old mid mending then first) (hands then)

    -- behind the first try to mend it
    pub run_behind : (seat later : Seat L) (old mid new : Slot R) (mending then left : Mending R) → IsTended radio frames old mid mending then
        → IsRadioRun radio frames by_seat seat later mid new then left → IsRadioRun radio frames by_seat seat later old new mending left
    run_behind seat later old mid new mending then left first next =
        serve_on radio frames by_seat seat seat later old mid new mending then left (run_tended seat old mid mending then first) next
