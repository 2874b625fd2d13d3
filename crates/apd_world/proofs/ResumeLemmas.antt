-- Slots that resume, and a world begun anew with them.
use Rattle.std.proofs.Common.{◌≡◌, ◌⊎◌, inl, inr, true, ℕ, ◌<◌, List, [], length, map, Option, Some, None, Err, take, refl, sym, ap, subst, ◌∙◌, arith, get_or, set, length-set}
use Rattle.std.specs.FinMap as maps
use Rattle.std.proofs.lemmas.List.{get_or-set_same, take-set}
use Rattle.std.proofs.lemmas.Option.{slice_get-get_or}
use Rattle.apd_world.proofs.Words.{Addr, AreExact, AreHandedBack, AreHeardAt, AreLeft, AreResumed, Bssid, Conf, CoreState, DiskModel, DurableCore, EndsAtSlot, HasNotResumed, IsExact, IsResumed, LastHeard, LeavesOnly, Moment, Radio, RadioModel, Shows, Slot, SlotFault, Sound, State, Store, StoreFault, WorldFault, aid_at, bssid_of, device_of, driver_after_all, front_of, held_for, installed_rows, new_core, queue_if, radio_of, slot_at, slot_in, slot_place, wanted_after_all, wanted_then}
use Rattle.apd_core.proofs.HeldLemmas.{queue_of-no_outs}
use Rattle.apd_core.proofs.Queues.{all_weaker}
use Rattle.apd_disk.specs.Disk.{Only}
use Rattle.apd_slot.specs.Resuming.{IsGivenRows}
use Rattle.apd_slot.specs.Slots.{is_up_of, queue_of as slot_queue, wanted_of}
use Rattle.apd_slot.specs.Wanted.{Stations}
use Rattle.apd_slot.proofs.RowsLemmas.{installed_are, installed_at}
use Rattle.apd_store.specs.Outside.{store_device}
use Rattle.apd_store.specs.Recovery.{IsRecovered}
use Rattle.apd_store.specs.declared.fault.StoreFault.TheVariants as store_fault
use Rattle.apd_world.specs.BegunAnew.{IsBegunAnew, IsBegunWith, IsNotBegunAnew}
use Rattle.apd_world.specs.History.{after}
use Rattle.apd_world.specs.declared.fault.WorldFault.TheVariants as world_fault
use Rattle.apd_world.proofs.SlotLemmas.{all_at, place_of_own, slot_is}
use Rattle.apd_world.proofs.SoFar.{first_is, rest_is, zip_firsts, AreSoFar}

module _ {R : Type 0} (radio : RadioModel R) (frames : R → Option (List (List ℕ))) (s : State) where
  abbrev pub HasSameFrames : Slot R → Slot R → Type 0
  HasSameFrames before after = frames (radio_of after) ≡ frames (radio_of before)

  abbrev pub Resumes : Slot R → Slot R → Type 0
  Resumes before after = IsResumed radio s after × HasSameFrames before after

  -- one has not
  pub one_failed : (i : ℕ) (old now : List (Slot R)) (before after : Slot R) (fault : SlotFault) → i < length now → before ≡ get_or now i before
      → IsGivenRows radio (installed_rows s (bssid_of before)) (Err fault) before after → AreSoFar Resumes i old now
      → HasNotResumed radio s (bssid_of before) fault old (set now i after)
  one_failed i old now before after fault lt is given h =
      let there : i < length old = let m = h.many in omega (arith, lt, m) in
      let there_now : i < length (set now i after) = let m = length-set now i after in omega (arith, lt, m) in
      record {
        place = i;
        before = before;
        after = after;
        was = slice_get-get_or old i before there ∙ ap Some
            (first_is Resumes i old now before after is given.bssid h lt);
        is = slice_get-get_or (set now i after) i after there_now ∙ ap Some (get_or-set_same now i after after lt);
        bssid = refl;
        given = given;
        resumed = subst (AreResumed radio s) (sym (take-set now i after))
            (zip_firsts (IsResumed radio s) HasSameFrames (take i old) (take i now) h.changed);
        rest = rest_is Resumes i old now before after is given.bssid h lt;
      }

module _ {R : Type 0} (radio : RadioModel R) (s : State) where
  -- one has
  pub one_resumed : (slot : Slot R) → is_up_of slot ≡ true → wanted_of slot ≡ installed_rows s (bssid_of slot) → radio.stations (radio_of slot) ≡ installed_rows s (bssid_of slot) → slot_queue slot ≡ []
      → IsResumed radio s slot
  one_resumed slot up wanted installed queue = record {
    resumed = record { up = up; driver = λ a. ap (λ (stations : Stations). maps.get stations a) installed ∙ installed_at s (bssid_of slot) a; queue = queue };
    wanted = wanted;
    installed = installed;
  }

  -- slots that have resumed have what is wanted
  pub resumed_exact : (slots : List (Slot R)) → AreResumed radio s slots → AreExact radio slots
  resumed_exact slots all = all_weaker (IsResumed radio s) (IsExact radio) (λ slot r up. r.installed ∙ sym r.wanted) slots all

-- ---- a world begun anew
module _ {R : Type 0} (radio : RadioModel R) (slots : List (Slot R)) (table : State) (resumed : AreResumed radio table slots) where
  found : (b : Bssid) (slot : Slot R) (p : Option ℕ) → slot_place slots b ≡ p → slot_in slots p ≡ Some slot → IsResumed radio table slot × (bssid_of slot ≡ b)
  found b slot None at is = let none : ◌≡◌ {A = Option (Slot R)} None (Some slot) = is in cc
  found b slot (Some i) at is =
      let own : get_or slots i slot ≡ slot = (let both : Some (get_or slots i slot) ≡ Some slot = sym (slot_is slots b i slot at) ∙ ap (slot_in slots) at ∙ is in cc) in
      (all_at (IsResumed radio table) slots i slot is resumed, ap bssid_of (sym own) ∙ sym (place_of_own slots b i slot at))

  none_waits : (b : Bssid) (o : Option (Slot R)) → slot_at slots b ≡ o → queue_if o ≡ []
  none_waits b None at = refl
  none_waits b (Some slot) at = (found b slot (slot_place slots b) refl at).0.resumed.queue

  pub no_out_waits : (b : Bssid) → queue_if (slot_at slots b) ≡ []
  no_out_waits b = none_waits b (slot_at slots b) refl

  -- nothing waits, and nothing is held
  pub begun_following : (core : CoreState) (confs : List Conf) (heard : LastHeard) → core ≡ new_core table confs heard
      → (b : Bssid) (slot : Slot R) → slot_at slots b ≡ Some slot → (a : Addr) → driver_after_all (held_for (Radio b) core) (maps.get (wanted_then slot)) a ≡ aid_at (front_of core) b a
  begun_following core confs heard is b slot at a =
      let f = found b slot (slot_place slots b) refl at in
      let held : held_for (Radio b) core ≡ [] = ap (held_for (Radio b)) is ∙ ap (map (λ x. x.1)) (queue_of-no_outs confs (Radio b)) in
      (λ i. driver_after_all (held i) (maps.get (wanted_after_all (f.0.resumed.queue i) (f.0.wanted i))) a)
      ∙ (λ i. installed_are table (bssid_of slot) i a) ∙ ap (λ c. aid_at table c a) f.1
      ∙ ap (λ (z : CoreState). aid_at (front_of z) b a) (sym is)

-- ---- over the store that a device holds
module _ {D : Type 0} (disk : DiskModel D) (device : D) (store : Store D) (table : State)
    (found : IsRecovered disk device store table) where
  images : disk.honest (store_device store) → Only (disk.reads device) (disk.may_leave (store_device store))
  images honest image left = (found.idle honest).durable image left ∙ found.stays honest

  -- a world was begun
  module _ (confs : List Conf) (m : Moment) (new : DurableCore D) (begun : IsBegunWith disk store table confs m new)
    where
      same_table : new.core.settled ≡ table
      same_table = ap (λ (s : CoreState). s.settled) begun.core

      made_honest : disk.honest (device_of new) → disk.honest (store_device store)
      made_honest = subst (λ (s : Store D). disk.honest (store_device s)) begun.over

      pub begun_from : ((s : State) → Shows (disk.reads device) table → Shows (disk.reads device) s → table ≡ s)
          → IsBegunAnew disk device confs m new
      begun_from one = record {
        length = found.length;
        core = begun.core ∙ ap (λ s. new_core s confs new.core.heard) (sym same_table);
        heard = subst (λ s. AreHeardAt m s new.core.heard) (sym same_table) begun.heard;
        sound = subst Sound (sym same_table) begun.sound;
        whole = begun.whole found.inside found.ready;
        count = ap (λ (s : Store D). disk.failed (store_device s)) begun.over ∙ found.count;
        was_honest = λ honest. found.was_honest (made_honest honest);
        shown = λ honest. subst (Shows (disk.reads device)) (sym same_table) (found.shown (made_honest honest));
        recovered = λ honest old last kept. same_table ∙ one (after last kept.front) (found.shown (made_honest honest)) kept.shows;
        proper = λ honest. begun.proper (made_honest honest) found.inside (found.idle (made_honest honest));
        images = λ honest. subst (λ (s : Store D). Only (disk.reads device) (disk.may_leave (store_device s))) (sym begun.over)
            (images (made_honest honest));
        any_moment = λ honest. subst (λ (s : Store D). LeavesOnly disk device (store_device s) (disk.may_leave device))
            (sym begun.over) (found.any_moment (made_honest honest));
      }

  -- none was
  module _ {R : Type 0} (radio : RadioModel R) (slots left : List (Slot R)) (back : D) (fault : WorldFault)
      (h : AreHandedBack radio store table slots back left fault) where
    no_refusal : {A : Type 0} (e : StoreFault) → fault ≡ world_fault.Store e → A
    no_refusal e is = absurd (subst (λ f. AreLeft radio table f slots left) is h.slots_are)

    held : disk.honest back → disk.honest (store_device store)
    held = subst disk.honest h.device_is

    pub not_begun_from : (disk.honest device → disk.may_leave device (disk.reads device)) → IsNotBegunAnew disk device back fault
    not_begun_from may = record {
      device_failed = λ is. no_refusal store_fault.Device is;
      no_fault = λ other. ap disk.failed h.device_is ∙ found.count;
      was_honest = λ honest. found.was_honest (held honest);
      not_a_store = λ honest is. no_refusal store_fault.NotAStore is;
      old_version = λ honest is. no_refusal store_fault.OldVersion is;
      damaged = λ honest is. no_refusal store_fault.Damaged is;
      durable = λ honest. inl (subst (λ d. Only (disk.reads device) (disk.may_leave d)) (sym h.device_is) (images (held honest)));
      still = λ honest image only.
          let same = only (disk.reads device) (may (found.was_honest (held honest))) in (
            (λ other left. images (held honest) other (subst (λ d. disk.may_leave d other) h.device_is left) ∙ same),
            ap disk.reads h.device_is ∙ found.stays (held honest) ∙ same,
          );
      any_moment = λ honest. subst (λ d. LeavesOnly disk device d (disk.may_leave device)) (sym h.device_is)
          (found.any_moment (held honest));
    }

  -- for want of memory, or at a slot
  pub ends_so : {R : Type 0} (radio : RadioModel R) (back : D) (slots left : List (Slot R)) (fault : WorldFault)
      → (disk.honest back → Shows (disk.reads device) table) → AreLeft radio table fault slots left
      → (fault ≡ world_fault.NoMemory) ⊎ ((b : Bssid) × (f : SlotFault) × (fault ≡ world_fault.Slot b f)
      × EndsAtSlot disk radio device back b f slots left)
  ends_so radio back slots left (world_fault.Slot b f) shown h =
      inr (b, f, refl, record { table = table; shown = shown; not_resumed = h })
  ends_so radio back slots left world_fault.NoMemory shown h = inl refl
  ends_so radio back slots left (world_fault.Store e) shown h = absurd h
  ends_so radio back slots left world_fault.NoSlot shown h = absurd h

-- before any slot they are as they were
pub still_left : {R : Type 0} (radio : RadioModel R) (table : State) (slots left : List (Slot R)) (fault : WorldFault)
    → AreLeft radio table fault slots left
    → ((b : Bssid) (f : SlotFault) → fault ≡ world_fault.Slot b f → ⊥) → left ≡ slots
still_left radio table slots left (world_fault.Slot b f) h other = absurd (other b f refl)
still_left radio table slots left world_fault.NoMemory h other = h
still_left radio table slots left (world_fault.Store e) h other = absurd h
still_left radio table slots left world_fault.NoSlot h other = absurd h
