-- A slot whose radio was replaced, in its world.
use Rattle.std.proofs.Common.{◌≡◌, ℕ, List, [], Option, Some, Result, Ok, Err, ⊎_elim, refl, sym, ap, subst, ◌∙◌, get_or, set}
use Rattle.std.proofs.lemmas.List.{append-nil}
use Rattle.apd_world.proofs.Words.{AreFollowing, Bssid, DiskModel, DurableCore, Goes, IsReplaced, IsReplacedAt, RadioModel, RefusesRadio, Replaces, Slot, SlotFault, SlotGoes, World, WorldFault, durable_of, slot_place, slots_of}
use Rattle.apd_slot.specs.Mending.{IsMended}
use Rattle.apd_slot.specs.Slots.{queue_of as slot_queue}
use Rattle.apd_slot.specs.Wanted.{wanted_after_all}
use Rattle.apd_world.specs.Mending.{IsMendedAt}
use Rattle.apd_world.specs.declared.fault.WorldFault.TheVariants as world_fault
use Rattle.apd_world.proofs.FollowLemmas.{follow_on}
use Rattle.apd_world.proofs.Goings.{goes_unchanged}
use Rattle.apd_world.proofs.Moving.{IsMoved, MovedAt, goes_moved, rest_moved}
use Rattle.apd_world.proofs.SlotLemmas.{slot_goes}

module _ {D R : Type 0} (disk : DiskModel D) (radio : RadioModel R) (frames : R → Option (List (List ℕ))) (b : Bssid) (other : R) where
  abbrev At : Result R (R × SlotFault) → Slot R → Slot R → Type 0
  At answer was now = IsReplacedAt radio frames other answer was now

  -- the slot at the place of the BSSID's was given it
  pub placed : (answer : Result R (R × SlotFault)) (old new : World D R) (place : ℕ) (slot after : Slot R) → slot_place (slots_of old) b ≡ Some place → slot ≡ get_or (slots_of old) place slot
      → slots_of new ≡ set (slots_of old) place after → At answer slot after → SlotGoes b (At answer) old new
  placed answer old new place slot after at is slots h = slot_goes b (At answer) old new place slot after at is slots h.given.bssid h

  module _ (old new : World D R) where
    refused : (P : Type 0) → ((answer : Result R (R × SlotFault)) → SlotGoes b (At answer) old new → P) → (new ≡ old → P) → (back : R) (fault : WorldFault)
        → RefusesRadio disk radio frames b other back fault old new → P
    refused P goes stays back (world_fault.Slot at fault) h = goes (Err (back, fault)) h.1
    refused P goes stays back world_fault.NoSlot h = stays h.2
    refused P goes stays back (world_fault.Store fault) h = absurd h
    refused P goes stays back world_fault.NoMemory h = absurd h

    -- the slot goes on so, or nothing was done
    either : (P : Type 0) → ((answer : Result R (R × SlotFault)) → SlotGoes b (At answer) old new → P) → (new ≡ old → P) → (answer : Result R (R × WorldFault))
        → Replaces disk radio frames b other answer old new → P
    either P goes stays (Ok own) h = goes (Ok own) h
    either P goes stays (Err failed) h = refused P goes stays failed.0 failed.1 h

    -- no out leaves it, and none comes to it
    unmoved : (answer : Result R (R × SlotFault)) (was now : Slot R) → At answer was now → IsMoved [] [] was now
    unmoved answer was now h = record { queue = h.given.queue ∙ sym (append-nil (slot_queue was)); wanted = h.wanted_then }

    module _ (answer : Result R (R × WorldFault)) (h : IsReplaced disk radio frames b other answer old new) where
      pub same_durable : durable_of new ≡ durable_of old
      same_durable = ap durable_of h.only

      pub replaced_moved : (c : Bssid) → MovedAt radio old new c [] []
      replaced_moved c = either (MovedAt radio old new c [] []) (λ a g. goes_moved radio old new c b (At a) (λ t. []) (λ t. []) refl refl (unmoved a) g) (λ same. rest_moved radio old new c (ap slots_of same)) answer h.replaces

      pub replaced_following : AreFollowing old → AreFollowing new
      replaced_following = follow_on radio old new [] (λ r. []) (λ c. [])
          (subst (λ (d : DurableCore D). Goes [] (λ r. []) (durable_of old).core d.core) (sym same_durable) (goes_unchanged (durable_of old).core)) replaced_moved

-- ---- a slot that was mended
module _ {D R : Type 0} (disk : DiskModel D) (radio : RadioModel R) (frames : R → Option (List (List ℕ))) (b : Bssid) (spares : List R) (old new : World D R) where
  still_then : (was now : Slot R) → IsMended radio frames spares was now → IsMoved [] [] was now
  still_then was now h = record {
    queue = h.queue ∙ sym (append-nil (slot_queue was));
    wanted = λ i. wanted_after_all (h.queue i) (h.wanted i);
  }

  module _ (So : Slot R → Slot R → Type 0) (is : (was now : Slot R) → So was now → IsMended radio frames spares was now) (Idle : Type 0)
      (h : IsMendedAt disk b So Idle old new) where
    pub mended_moved : (c : Bssid) → MovedAt radio old new c [] []
    mended_moved c =
        ⊎_elim (λ goes. goes_moved radio old new c b So (λ t. []) (λ t. []) refl refl (λ was now so. still_then was now (is was now so)) goes)
        (λ none. rest_moved radio old new c (ap slots_of none.2)) h.mended

    pub mended_following : AreFollowing old → AreFollowing new
    mended_following = follow_on radio old new [] (λ r. []) (λ c. [])
        (subst (λ (d : DurableCore D). Goes [] (λ r. []) (durable_of old).core d.core) (sym (ap durable_of h.only)) (goes_unchanged (durable_of old).core)) mended_moved
