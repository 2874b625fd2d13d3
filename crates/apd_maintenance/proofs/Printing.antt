-- What a check finds and prints, from what its calls say.
use Rattle.std.proofs.Common.{◌≡◌, ◌⊎◌, ℕ, List, length, Some, Result, Ok, Err, IfOk, inl, inr, sym, ap, subst, ◌∙◌}
use Rattle.std.specs.FinMap as map
use Rattle.std.specs.Option.{option_map}
use Rattle.std.proofs.lemmas.List.{length-map}
use Rattle.apd_base.specs.State.{State, count, list_count, policy_at}
use Rattle.apd_base.specs.declared.address.Bssid.{Bssid}
use Rattle.apd_base.specs.declared.station.Policy.{Policy}
use Rattle.apd_base.specs.declared.station.Which.TheVariants.{Accept, Deny}
use Rattle.apd_disk.specs.Disk.{Only, DiskModel}
use Rattle.apd_store.specs.Outside.{store_device}
use Rattle.apd_store.specs.Recovery.{IsRecovered}
use Rattle.apd_store.specs.declared.store.Store.{Store}
use Rattle.apd_table.specs.Allowed.{mode_and_max}
use Rattle.apd_maintenance.specs.Checking.{IsChecked, IsRefused, line_of, line_by, line_with}
use Rattle.apd_maintenance.specs.declared.checking.CheckFault.{CheckFault}
use Rattle.apd_maintenance.specs.declared.checking.CheckFault.TheVariants as fault

-- what is told of these numbers is the line of the BSSID that has them
pub line_is : {A E : Type 0} (bytes : A → List ℕ) (r : Result A E) (s : State) (b : Bssid) (policy : ℕ × ℕ) (stations accept deny : ℕ)
    → option_map mode_and_max (policy_at s b) ≡ Some policy → stations ≡ count s b → accept ≡ list_count s b Accept → deny ≡ list_count s b Deny
    → IfOk r (λ line. bytes line ≡ line_with b policy stations accept deny) → IfOk r (λ line. bytes line ≡ line_of s b)
line_is bytes (Ok line) s b policy stations accept deny has n a d told =
    let same : line_with b policy stations accept deny ≡ line_with b policy (count s b) (list_count s b Accept) (list_count s b Deny) = λ i. line_with b policy (n i) (a i) (d i) in
    told ∙ same ∙ sym (ap (line_by s b) has)
line_is bytes (Err e) s b policy stations accept deny has n a d told = tt

-- there are as many BSSIDs as policies
pub all_bss : (s : State) → map.len s.policies ≡ length (map.keys s.policies)
all_bss s = map.len-entries s.policies ∙ sym (length-map (map.entries s.policies) (λ (row : Bssid × Policy). row.0))

module _ {D : Type 0} (disk : DiskModel D) (device : D) where
  -- a device was read where its store was recovered
  pub was_read : (left : D) (store : Store D) (table : State) → left ≡ store_device store
      → IsRecovered disk device store table → IsChecked disk device left table
  was_read left store table same h =
      let inside : IsChecked disk device (store_device store) table = record {
        length = h.length;
        count = h.count;
        was_honest = h.was_honest;
        shown = h.shown;
        stays = h.stays;
        durable = λ honest. subst (λ (image : List ℕ). Only image (disk.may_leave (store_device store))) (h.stays honest) (h.idle honest).durable;
        any_moment = h.any_moment;
        calls = h.calls;
      } in
      subst (λ (d : D). IsChecked disk device d table) (sym same) inside

  -- and so it was where its table could not be printed
  pub not_printed : (left : D) (table : State) (why : CheckFault) → (why ≡ fault.Writer) ⊎ (why ≡ fault.NoMemory)
      → IsChecked disk device left table → IsRefused disk device left why
  not_printed left table why (inl is) h = subst (IsRefused disk device left) (sym is) (table, h)
  not_printed left table why (inr is) h = subst (IsRefused disk device left) (sym is) (table, h)
