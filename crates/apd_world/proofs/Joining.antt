-- What a world's step does beside its durable core.
use Rattle.std.proofs.Common.{◌≡◌, ℕ, Some, refl, sym, ap, subst, ◌∙◌, get_or, set}
use Rattle.std.proofs.lemmas.List.{set-get_or}
use Rattle.apd_world.proofs.Words.{Applied, Apply, AreQueued, Bssid, Control, DurableCore, Hand, Handed, HasNoSlot, IsApplied, IsStep, IsWorldStep, NoMemory, Nothing, Queued, QueuesReady, Radio, RadioModel, Recipient, RestStays, SameButRoom, Slot, Step, Told, World, durable_of, queue_if, slot_place, slots_of}
use Rattle.apd_world.proofs.Goings.{goes_unchanged}
use Rattle.apd_world.proofs.SlotLemmas.{slot_goes, slot_is}
use Rattle.apd_world.proofs.StepLemmas.{step_unchanged}

-- inside, nothing is asked for
not_asked : {D : Type 0} (b : Bssid) (d : DurableCore D) → IsStep (Hand (Radio b)) Nothing d d
not_asked b d = step_unchanged (Hand (Radio b)) Nothing d d refl refl (goes_unchanged d.core) refl

passed_over : {D : Type 0} (b : Bssid) (d : DurableCore D) → IsStep (Apply b) Nothing d d
passed_over b d = step_unchanged (Apply b) Nothing d d refl refl (goes_unchanged d.core) refl

module _ {D R : Type 0} (radio : RadioModel R) (b : Bssid) where
  -- without a slot nothing is done
  pub no_slot_joins : (w : World D R) → HasNoSlot b w → IsWorldStep radio (Hand (Radio b)) Nothing w w
  no_slot_joins w none = record { inside = Nothing; durable = not_asked b (durable_of w); joins = (none, refl) }

  pub nothing_joins : (w : World D R) → HasNoSlot b w → IsWorldStep radio (Apply b) Nothing w w
  nothing_joins w none = record { inside = Nothing; durable = passed_over b (durable_of w); joins = (ap queue_if none, refl) }

  -- the slot at the place of the BSSID's goes on
  module _ (old new : World D R) (place : ℕ) (slot after : Slot R) (at : slot_place (slots_of old) b ≡ Some place) (is : slot ≡ get_or (slots_of old) place slot)
      (slots : slots_of new ≡ set (slots_of old) place after) where
    -- what is ready for its radio is handed to it
    pub hand_joins : (told : Told) → QueuesReady b told (durable_of old) (durable_of new) slot after → IsWorldStep radio (Hand (Radio b)) told old new
    hand_joins (Queued count) h = record { inside = Handed h.0; durable = h.1; joins = (h.2, slot_goes b (AreQueued h.0) old new place slot after at is slots h.3.same.bssid h.3) }
    hand_joins NoMemory h = record {
      inside = NoMemory;
      durable = step_unchanged (Hand (Radio b)) NoMemory (durable_of old) (durable_of new) h.1 (h.0, h.1) (goes_unchanged (durable_of old).core) refl;
      joins = slot_goes b SameButRoom old new place slot after at is slots h.2.bssid h.2;
    }
    hand_joins told h = absurd h

    -- the first out that waits is applied
    module _ (durable : durable_of new ≡ durable_of old) where
      stays : IsStep (Apply b) Nothing (durable_of old) (durable_of new)
      stays = subst (λ (d : DurableCore D). IsStep (Apply b) Nothing (durable_of old) d) (sym durable) (passed_over b (durable_of old))

      pub apply_joins : (told : Told) → IsApplied radio told slot after → IsWorldStep radio (Apply b) told old new
      apply_joins (Applied out answer) h = record {
        inside = Nothing;
        durable = stays;
        joins = slot_goes b (IsApplied radio (Applied out answer)) old new place slot after at is slots h.first.2.bssid h;
      }
      apply_joins NoMemory h = record {
        inside = Nothing;
        durable = stays;
        joins = slot_goes b (IsApplied radio NoMemory) old new place slot after at is slots h.first.given.bssid h;
      }
      apply_joins Nothing h = record {
        inside = Nothing;
        durable = stays;
        joins = (ap queue_if (slot_is (slots_of old) b place slot at ∙ ap Some (sym is)) ∙ h.first.0, slots ∙ ap (set (slots_of old) place) (h.first.1 ∙ is) ∙ set-get_or (slots_of old) place slot);
      }
      apply_joins told h = absurd h.first

-- control is handed what is ready by the durable core
pub control_joins : {D R : Type 0} (radio : RadioModel R) (to : Recipient) (told : Told) (old new : World D R) → to ≡ Control → RestStays old new
    → IsStep (Hand to) told (durable_of old) (durable_of new) → IsWorldStep radio (Hand to) told old new
control_joins radio Control told old new is slots h = record { inside = told; durable = h; joins = (refl, slots) }
control_joins radio (Radio b) told old new is slots h = cc

-- any other step is the durable core's
pub durable_joins : {D R : Type 0} (radio : RadioModel R) (step : Step) (told : Told) (old new : World D R) → ((r : Recipient) → step ≡ Hand r → ⊥) → ((b : Bssid) → step ≡ Apply b → ⊥)
    → RestStays old new → IsStep step told (durable_of old) (durable_of new) → IsWorldStep radio step told old new
durable_joins radio (Hand r) told old new hand apply slots h = absurd (hand r refl)
durable_joins radio (Apply b) told old new hand apply slots h = absurd (apply b refl)
durable_joins radio step told old new hand apply slots h = record { inside = told; durable = h; joins = (refl, slots) }
