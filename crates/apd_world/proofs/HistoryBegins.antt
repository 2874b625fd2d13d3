-- Worlds that stand for a history: any, one that has just begun, and one whose radio was replaced.
use Rattle.std.proofs.Common.{◌≡◌, ℕ, List, [], ◌++◌, Option, Result, refl, sym, ap, subst, ◌∙◌, arith}
use Rattle.std.proofs.lemmas.List.{append-nil}
use Rattle.apd_slot.specs.Mending.{IsMended}
use Rattle.apd_world.proofs.Words.{Bssid, Conf, Control, CoreState, DiskModel, IsCore, IsReplaced, IsSafe, Out, Radio, RadioModel, Recipient, Slot, Sound, State, World, WorldFault, durable_of, new_core, queue_of, ready_for, slot_at, slots_of}
use Rattle.apd_core.proofs.Settling.{decided_fit}
use Rattle.apd_world.specs.History.{History}
use Rattle.apd_world.specs.Mending.{IsMendedAt}
use Rattle.apd_world.specs.StandsFor.{BeginsAt, IsHistoryOf, LeadsSafely, StandsFor, waiting_outs}
use Rattle.apd_world.proofs.CoreHistories.{begins_blank}
use Rattle.apd_world.proofs.HistoryLemmas.{still_leads}
use Rattle.apd_world.proofs.Moving.{MovedAt, moved_flows}
use Rattle.apd_world.proofs.ReplaceLemmas.{mended_moved, replaced_moved, same_durable}

module _ {D R : Type 0} (w : World D R) where
  abbrev core : CoreState
  core = (durable_of w).core

  -- the history that begins at the settled table, with what is not settled
  module _ (is : IsCore core) where
    abbrev to_give : Recipient → List Out
    to_give r = waiting_outs r w ++ ready_for r core

    abbrev pub begun : History
    begun = record {
      confs = core.confs;
      first = core.settled;
      before = core.number;
      owed = to_give;
      happened = is.unsettled.happened;
      durable = 0;
      heard = core.heard;
      given = λ r. [];
      read = [];
    }

    pub begun_stands : StandsFor w begun
    begun_stands = record {
      history = record {
        sound = is.sound;
        fit = decided_fit core.confs is.unsettled.happened core.unsettled core.settled is.unsettled.decided;
        durable = omega arith;
        given = λ r. (to_give r, append-nil (to_give r));
        read = tt;
      };
      confs = refl;
      number = omega arith;
      settled = refl;
      unsettled = is.unsettled.decided;
      held = is.unsettled.outs;
      heard_so = refl;
      waiting = λ r. refl;
    }

  -- the blank one, where a core begins with this table, and no out waits
  module _ (confs : List Conf) (table : State) (is : core ≡ new_core table confs core.heard) (sound : Sound table) (empty : (b : Bssid) → queue_of w b ≡ []) where
    none_waits : (r : Recipient) → waiting_outs r w ≡ []
    none_waits (Radio b) = empty b
    none_waits Control = refl

    pub begins_at : BeginsAt confs table w
    begins_at = begins_blank core confs table is sound (λ r. waiting_outs r w) none_waits

-- a call that moves no out leaves the history
module _ {D R : Type 0} (disk : DiskModel D) (radio : RadioModel R) (old new : World D R) (same : durable_of new ≡ durable_of old) (moved : (c : Bssid) → MovedAt radio old new c [] [])
    (safe : IsSafe disk (durable_of old) (durable_of new)) (j : History) (stands : StandsFor old j) where
  still_waits : (r : Recipient) → waiting_outs r new ≡ waiting_outs r old
  still_waits (Radio c) =
      moved_flows [] [] (slot_at (slots_of old) c) (slot_at (slots_of new) c) (moved c)
      ∙ append-nil (queue_of old c)
  still_waits Control = refl

  still_stands : StandsFor new j
  still_stands = subst (λ X. X) (λ i. IsHistoryOf (sym same i).core (λ r. sym (still_waits r) i) j) stands

  pub unmoved_leads : LeadsSafely disk [] [] old new j j
  unmoved_leads = still_leads disk old new j safe stands still_stands

module _ {D R : Type 0} (disk : DiskModel D) (radio : RadioModel R) (frames : R → Option (List (List ℕ))) (b : Bssid) (old new : World D R) where
  pub replaced_leads : (other : R) (answer : Result R (R × WorldFault)) → IsReplaced disk radio frames b other answer old new → (j : History) → StandsFor old j → LeadsSafely disk [] [] old new j j
  replaced_leads other answer h =
      unmoved_leads disk radio old new (same_durable disk radio frames b other old new answer h) (replaced_moved disk radio frames b other old new answer h) h.safe

  pub mended_leads : (spares : List R) (So : Slot R → Slot R → Type 0) (is : (was now : Slot R) → So was now → IsMended radio frames spares was now) (Idle : Type 0)
      → IsMendedAt disk b So Idle old new → (j : History) → StandsFor old j → LeadsSafely disk [] [] old new j j
  mended_leads spares So is Idle h =
      unmoved_leads disk radio old new (ap durable_of h.only) (mended_moved disk radio frames b spares old new So is Idle h) h.safe
