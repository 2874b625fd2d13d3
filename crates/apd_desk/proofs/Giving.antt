-- One gift of outs after another.
use Rattle.std.proofs.Common.{◌≡◌, ◌≢◌, ℕ, List, [], ◌∷◌, ◌++◌, Option, Some, None, Result, Ok, Err, refl, sym, ap, subst, ◌∙◌, append_assoc}
use Rattle.std.specs.declared.alloc.AllocError.{AllocError}
use Rattle.std.proofs.lemmas.List.{append-nil}
use Rattle.apd_base.specs.declared.address.Bssid.{Bssid}
use Rattle.apd_core.specs.Core.{CoreState, ready_for}
use Rattle.apd_mlme.specs.declared.decision.Out.{Out}
use Rattle.apd_mlme.specs.declared.decision.Recipient.TheVariants.{Radio as ToRadio}
use Rattle.apd_radio.specs.Model.{RadioModel}
use Rattle.apd_slot.specs.Applying.{AppliesNext}
use Rattle.apd_slot.specs.Mending.{IsMended}
use Rattle.apd_slot.specs.Slots.{bssid_of, queue_of, wanted_of, IsExact}
use Rattle.apd_slot.specs.Wanted.{Stations, wanted_after, wanted_after_all, wanted_by}
use Rattle.apd_slot.specs.declared.slot.Slot.{Slot}
use Rattle.apd_slot.specs.declared.slot.SlotFault.{SlotFault}
use Rattle.apd_slot.specs.declared.slot.SlotFault.TheVariants.{WentDown, Lost, NotMine, NoMemory}
use Rattle.apd_steps.specs.Handing.{HandsTo}
use Rattle.apd_desk.specs.Giving.{IsServed, IsGivenOn}

wanted_on : (outs more : List Out) (wanted : Stations)
    → wanted_after_all (outs ++ more) wanted ≡ wanted_after_all more (wanted_after_all outs wanted)
wanted_on [] more wanted = refl
wanted_on (out ∷ outs) more wanted = wanted_on outs more (wanted_after out wanted)

-- an out that didn't meet want of memory was taken
out_taken : (out : Out) (answer : Result (Unit {0}) SlotFault) (wanted : Stations) → answer ≢ Err NoMemory
    → wanted_by out answer wanted ≡ wanted_after out wanted
out_taken out (Ok _) wanted not = refl
out_taken out (Err WentDown) wanted not = refl
out_taken out (Err Lost) wanted not = refl
out_taken out (Err NotMine) wanted not = refl
out_taken out (Err NoMemory) wanted not = absurd (not refl)

module _ {R : Type 0} (radio : RadioModel R) where
  pub served : (collected applied : List Out) (a b : Slot R) → bssid_of b ≡ bssid_of a → (IsExact radio a → IsExact radio b)
      → queue_of a ++ collected ≡ applied ++ queue_of b → wanted_of b ≡ wanted_after_all applied (wanted_of a) → IsServed radio collected a b
  served collected applied a b bssid exact in_order wanted =
      record {
        bssid = bssid;
        exact = exact;
        applied = applied;
        in_order = in_order;
        wanted = wanted;
        all_then =
            ap (wanted_after_all (queue_of b)) wanted
            ∙ sym (wanted_on applied (queue_of b) (wanted_of a))
            ∙ ap (λ (all : List Out). wanted_after_all all (wanted_of a)) (sym in_order)
            ∙ wanted_on (queue_of a) collected (wanted_of a);
      }

  pub served_on : (c d : List Out) (x y z : Slot R) → IsServed radio c x y → IsServed radio d y z
      → IsServed radio (c ++ d) x z
  served_on c d x y z first next =
      served (c ++ d) (first.applied ++ next.applied) x z (next.bssid ∙ first.bssid) (λ is. next.exact (first.exact is))
      (sym (append_assoc (queue_of x) c d)
      ∙ ap (λ (all : List Out). all ++ d) first.in_order
      ∙ append_assoc first.applied (queue_of y) d
      ∙ ap (λ (all : List Out). first.applied ++ all) next.in_order
      ∙ sym (append_assoc first.applied next.applied (queue_of z)))
      (next.wanted ∙ ap (wanted_after_all next.applied) first.wanted ∙ sym (wanted_on first.applied next.applied (wanted_of x)))

  pub given_on : (x y z : Slot R) → IsGivenOn radio x y → IsGivenOn radio y z → IsGivenOn radio x z
  given_on x y z first next = (first.0 ++ next.0, served_on first.0 next.0 x y z first.1 next.1)

  -- nothing happened
  pub unserved : (a : Slot R) → IsServed radio [] a a
  unserved a = served [] [] a a refl (λ is. is) (append-nil (queue_of a)) refl

  -- a slot that is mended was given nothing
  pub mended_served : (frames : R → Option (List (List ℕ))) (spares : List R) (a b : Slot R) → IsMended radio frames spares a b
      → IsServed radio [] a b
  mended_served frames spares a b h =
      served [] [] a b h.bssid h.exact (append-nil (queue_of a) ∙ sym h.queue) h.wanted

  -- the next out was applied, or meets want of memory and stays
  pub next_served : (next : Option (Result (Out × Result (Unit {0}) SlotFault) AllocError)) (a b : Slot R)
      → AppliesNext radio next a b → IsServed radio [] a b
  next_served (Some (Ok applied)) a b h =
      served [] (applied.0 ∷ []) a b h.2.bssid h.2.exact (append-nil (queue_of a) ∙ h.0)
      (h.2.wanted ∙ out_taken applied.0 applied.1 (wanted_of a) h.1)
  next_served (Some (Err short)) a b h =
      served [] [] a b h.given.bssid h.given.exact (append-nil (queue_of a) ∙ sym h.queue) h.given.wanted
  next_served None a b h = subst (λ (z : Slot R). IsServed radio [] a z) (sym h.1) (unserved a)

  -- what is ready was handed to a slot, or stays where memory lacks
  pub hands_given : (b : Bssid) (answer : Result ℕ AllocError) (core after : CoreState) (a z : Slot R) → HandsTo b answer core after a z
      → IsGivenOn radio a z
  hands_given b (Ok count) core after a z h =
      let same = h.2.same in (
        ready_for (ToRadio b) core,
        served (ready_for (ToRadio b) core) [] a z same.bssid
            (λ exact up. ap radio.stations same.radio ∙ exact (sym same.up ∙ up) ∙ sym same.wanted)
            (sym h.2.queue) same.wanted,
      )
  hands_given b (Err short) core after a z h =
      let same = h.2 in (
        [],
        served [] [] a z same.bssid
            (λ exact up. ap radio.stations same.radio ∙ exact (sym same.up ∙ up) ∙ sym same.wanted)
            (append-nil (queue_of a) ∙ sym same.queue) same.wanted,
      )
