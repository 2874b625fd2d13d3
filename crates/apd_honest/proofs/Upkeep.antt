-- What the subcommands without threads come to on disks that are always honest.
use Rattle.std.proofs.Common.{⊎_elim, inl, inr, List, ℕ, Option}
use Rattle.apd_base.specs.State.{State, empty_state}
use Rattle.apd_disk.specs.Disk.{DiskModel}
use Rattle.apd_maintenance.specs.Checking.{IsChecked}
use Rattle.apd_maintenance.specs.Formatting.{IsNewStore}
use Rattle.apd_maintenance.specs.Missing.{IsKept, IsMadeOfZeros, IsThere}
use Rattle.apd_maintenance.specs.Upgrading.{IsCopied}
use Rattle.apd_honest.specs.Maintenance.{IsCheckedOutright, IsCopiedOutright, IsKeptOutright, IsMadeOfZerosOutright, IsStoreOutright, IsThereOutright}
use Rattle.apd_honest.proofs.Outright.{both, still}

module _ {D : Type 0} (disk : DiskModel D) (always : (d : D) → disk.honest d) where
  pub checked : (reads_left : (d : D) → disk.honest d → disk.may_leave d (disk.reads d)) (device left : D) (table : State) → IsChecked disk device left table
      → IsCheckedOutright disk device left table
  checked reads_left device left table h =
      let there = always left in
      record {
        shown = h.shown there;
        read = record {
          honest = both disk always device left;
          only_read = record {
            any_moment = h.any_moment there;
            still = still disk always reads_left device left (h.stays there) (h.durable there);
            calls = h.calls there;
          };
          stays = h.stays there;
          durable = h.durable there;
        };
      }

  pub new_store : (device made : D) → IsNewStore disk device made → IsStoreOutright disk empty_state device made
  new_store device made h =
      let there = always made in
      record { laid = record { honest = both disk always device made; any_moment = h.any_moment there; calls = h.calls there }; shown = h.empty there }

  kept : (device left : D) → IsKept disk device left → IsKeptOutright disk device left
  kept device left h =
      let there = always left in
      record {
        honest = both disk always device left;
        is_there = h.is_there there;
        stays = h.stays there;
        any_moment = h.any_moment there;
        calls = h.calls there;
      }

  made_of_zeros : (device made : D) → IsMadeOfZeros disk device made → IsMadeOfZerosOutright disk device made
  made_of_zeros device made h =
      let there = always made in
      record {
        honest = both disk always device made;
        zeros = h.zeros there;
        empty = h.empty there;
        any_moment = h.any_moment there;
        calls = h.calls there;
      }

  pub is_there : (held holds : Option (List ℕ)) (device left : D) → IsThere disk held holds device left → IsThereOutright disk device left
  is_there held holds device left h = ⊎_elim (λ one. inl (kept device left one.0)) (λ one. inr (made_of_zeros device left one.0)) h

pub copied : {O N : Type 0} (from : DiskModel O) (to : DiskModel N) (from_always : (d : O) → from.honest d) (to_always : (d : N) → to.honest d) (old left : O) (new made : N)
    → IsCopied from to old left new made → IsCopiedOutright from to old left new made
copied from to from_always to_always old left new made h =
    let there = to_always made in
    record {
      state = h.on_its_way.state;
      shown = h.on_its_way.shown (from_always left);
      old_stays = h.old_stays (from_always left);
      store = record {
        laid = record { honest = both to to_always new made; any_moment = h.on_its_way.any_moment there; calls = h.on_its_way.calls there };
        shown = h.shown there;
      };
    }
