-- What the clauses of calls come to on a disk that is always honest.
use Rattle.std.proofs.Common.{◌≡◌, ◌≢◌, ⊎_elim, inl, inr, ℕ, List, ◌∙◌, subst}
use Rattle.apd_base.specs.State.{State, empty_state}
use Rattle.apd_base.specs.declared.limits.TheConstants.{DEVICE_LENGTH}
use Rattle.apd_disk.specs.Disk.{Only, DiskModel}
use Rattle.apd_store.specs.Formatting.{IsFormatted, IsNotFormatted}
use Rattle.apd_store.specs.Image.{ShowsNone, ShowsNoneOld}
use Rattle.apd_store.specs.Outside.{store_device}
use Rattle.apd_store.specs.Recovery.{IsNotRecovered, IsRecovered}
use Rattle.apd_store.specs.Upgrading.{IsBeingMade, IsNotUpgraded, IsOnlyRead, IsUpgraded}
use Rattle.apd_store.specs.declared.fault.StoreFault.{StoreFault}
use Rattle.apd_store.specs.declared.fault.StoreFault.TheVariants.{NoMemory, Device}
use Rattle.apd_store.specs.declared.store.Store.{Store}
use Rattle.apd_honest.specs.Stores.{IsLaidOutright, IsMadeOutright, IsNotRecoveredOutright, IsNotUpgradedOutright, IsRecoveredOutright, IsUpgradedOutright, StaysHonest}
use Rattle.apd_honest.proofs.Marks.{one_mark, unmarked, unmarked_old}

module _ {D : Type 0} (disk : DiskModel D) (always : (d : D) → disk.honest d) where
  pub both : (old new : D) → StaysHonest disk old new
  both old new = (λ h. always new, λ h. always old)

  -- ---- a new store
  pub formatted : (device : D) (store : Store D) → IsFormatted disk device store → IsMadeOutright disk empty_state device store
  formatted device store h =
      let there = always (store_device store) in
      record {
        laid = record { honest = both device (store_device store); any_moment = h.any_moment there; calls = h.calls there };
        idle = h.empty there;
        shown = h.shown there;
      }

  pub not_formatted : (device left : D) (fault : StoreFault) → IsNotFormatted disk device left fault → IsLaidOutright disk empty_state device left
  not_formatted device left fault h = record { honest = both device left; any_moment = h.any_moment (always left); calls = h.calls (always left) }

  -- ---- a store that is read
  module _ (reads_left : (d : D) → disk.honest d → disk.may_leave d (disk.reads d)) where
    pub still : (device left : D) → disk.reads left ≡ disk.reads device → Only (disk.reads device) (disk.may_leave left) → (image : List ℕ) → Only image (disk.may_leave device)
        → Only image (disk.may_leave left) × (disk.reads left ≡ image)
    still device left stays durable image only =
        let same : disk.reads device ≡ image = only (disk.reads device) (reads_left device (always device)) in
        (subst (λ (l : List ℕ). Only l (disk.may_leave left)) same durable, stays ∙ same)

    pub recovered : (device : D) (store : Store D) (state : State) → IsRecovered disk device store state → IsRecoveredOutright disk device store state
    recovered device store state h =
        let there = always (store_device store) in
        let idle = h.idle there in
        let stays = h.stays there in
        let durable : Only (disk.reads device) (disk.may_leave (store_device store)) = subst (λ (l : List ℕ). Only l (disk.may_leave (store_device store))) stays idle.durable in
        record {
          shown = h.shown there;
          read = record {
            honest = both device (store_device store);
            only_read = record { any_moment = h.any_moment there; still = still device (store_device store) stays durable; calls = h.calls there };
            stays = stays;
            durable = durable;
          };
          idle = idle;
        }

  pub not_recovered : (device left : D) (fault : StoreFault) → IsNotRecovered disk device left fault → IsNotRecoveredOutright disk device left fault
  not_recovered device left fault h =
      let there = always left in
      let here = disk.reads device in
      let none : fault ≢ Device → fault ≢ NoMemory → ShowsNone here = λ device_works memory.
      ⊎_elim (λ e. unmarked here (h.not_a_store there e).0)
      (⊎_elim (λ e. unmarked here (λ marked. one_mark here marked (h.old_version there e)))
      (⊎_elim (λ e. (h.damaged there e).1)
      (⊎_elim (λ e. absurd (device_works e)) (λ e. absurd (memory e))))) h.few in
      record {
        none = none;
        not_a_store = h.not_a_store there;
        old_version = h.old_version there;
        damaged = λ e. (h.damaged there e).0;
        read = record {
          honest = both device left;
          only_read = record { any_moment = h.any_moment there; still = h.still there; calls = h.calls there };
          stays = h.stays there;
          durable = h.durable there;
        };
      }

-- ---- a copy
module _ {O N : Type 0} (from : DiskModel O) (to : DiskModel N) (from_always : (d : O) → from.honest d) (to_always : (d : N) → to.honest d) where
  module _ (old left : O) (only_read : from.honest left → IsOnlyRead from old left) where
    pub upgraded : (new : N) (store : Store N) → IsUpgraded from to old left new store → IsUpgradedOutright from to old left new store
    upgraded new store h =
        let there = to_always (store_device store) in
        record {
          state = h.made.state;
          shown = h.made.shown (from_always left);
          old_read = record {
            honest = both from from_always old left;
            only_read = only_read (from_always left);
            stays = h.old_stays (from_always left);
            durable = h.old_durable (from_always left);
          };
          made = record {
            laid = record { honest = both to to_always new (store_device store); any_moment = h.made.any_moment there; calls = h.made.calls there };
            idle = h.idle there;
            shown = h.shown there;
          };
        }

    pub not_upgraded : (new new_left : N) (fault : StoreFault) → IsNotUpgraded from to old left new new_left fault → IsNotUpgradedOutright from to old left new new_left fault
    not_upgraded new new_left fault h =
        let there = from_always left in
        let here = from.reads old in
        let none : fault ≢ Device → fault ≢ NoMemory → to.size new ≡ DEVICE_LENGTH → ShowsNoneOld here = λ device_works memory length.
        ⊎_elim (λ e. ⊎_elim (λ none. unmarked_old here none.1) (λ other. absurd (other.0 length)) (h.not_a_store there e))
        (⊎_elim (λ e. unmarked_old here (λ marked. one_mark here (h.new_version there e) marked))
        (⊎_elim (λ e. (h.damaged there e).1)
        (⊎_elim (λ e. absurd (device_works e)) (λ e. absurd (memory e))))) h.few in
        record {
          none = none;
          new_version = h.new_version there;
          damaged = λ e. (h.damaged there e).0;
          old_read = record {
            honest = both from from_always old left;
            only_read = only_read there;
            stays = h.stays there;
            durable = h.old_durable there;
          };
          honest = both to to_always new new_left;
          new_is = ⊎_elim (λ same. inl same) (λ (made : IsBeingMade from to old left new new_left). inr (
            made.state,
            made.shown there,
            record {
              honest = both to to_always new new_left;
              any_moment = made.any_moment (to_always new_left);
              calls = made.calls (to_always new_left);
            },
          )) h.made;
        }
