-- What a stop does, from what its parts do.
use Rattle.std.proofs.Common.{◌≡◌, ℕ, List, map, drop, take, length, None, Result, Ok, Err, IfErr, ◌⊎◌, inl, inr, refl, sym, ap, subst, ◌∙◌}
use Rattle.std.specs.Prelude.{IfOk}
use Rattle.apd_base.specs.State.{State}
use Rattle.apd_base.specs.declared.moment.Moment.{Moment}
use Rattle.apd_conf.specs.declared.conf.Conf.{Conf}
use Rattle.apd_mlme.specs.Run.{run}
use Rattle.apd_disk.specs.Disk.{DiskModel}
use Rattle.apd_radio.specs.Model.{RadioModel}
use Rattle.apd_slot.specs.Slots.{bssid_of}
use Rattle.apd_base.specs.declared.address.Bssid.{Bssid}
use Rattle.apd_slot.specs.declared.slot.Slot.{Slot}
use Rattle.apd_slot.specs.declared.slot.SlotFault.{SlotFault}
use Rattle.apd_store.specs.declared.fault.StoreFault.TheVariants as store_fault
use Rattle.apd_store.specs.Image.{Shows}
use Rattle.apd_world.specs.History.{History, Keeps, after}
use Rattle.apd_world.specs.Outside.{device_of}
use Rattle.apd_world.specs.Proper.{IsProper, IsShown}
use Rattle.apd_world.specs.Resumed.{EndsAtSlot}
use Rattle.apd_world.specs.StandsFor.{StandsFor}
use Rattle.apd_world.specs.WorldParts.{durable_of}
use Rattle.apd_world.specs.declared.fault.WorldFault.{WorldFault}
use Rattle.apd_world.specs.declared.fault.WorldFault.TheVariants as world_fault
use Rattle.apd_world.specs.declared.world.World.{World}
use Rattle.apd_script.specs.Faults.{IsBeginFault, IsBeginningFault, IsEndedBy, IsNotBegunFrom, IsSaidFault, IsStartFault, IsUnwritten}
use Rattle.apd_script.specs.Lines.{Stop}
use Rattle.apd_script.specs.Script.{AreRenewed, confs_of, IsBegunFrom, IsRestarted, Restarts, Starts, Stops}
use Rattle.apd_script.specs.declared.script.fault.ScriptFault.{ScriptFault}
use Rattle.apd_script.specs.declared.script.fault.ScriptFault.TheVariants as fault
use Rattle.apd_script.specs.declared.script.runner.Runner.{Runner}

module _ {D R : Type 0} (disk : DiskModel D) (radio : RadioModel R) where
  -- a world is begun anew from the device of another
  pub anew : (m : Moment) (device : D) (old new : World D R) (confs : List Conf) → device ≡ device_of (durable_of old)
      → (IsProper disk (durable_of old) → IsShown disk (durable_of old))
      → (IsProper disk (durable_of old) → (j : History) → StandsFor old j → (image : List ℕ) → disk.may_leave (device_of (durable_of old)) image → Keeps j j image)
      → (disk.honest (device_of (durable_of old)) → disk.may_leave (device_of (durable_of old)) (disk.reads (device_of (durable_of old))))
      → ((image : List ℕ) (s t : State) → Shows image s → Shows image t → s ≡ t)
      → confs ≡ (durable_of old).core.confs
      → IsBegunFrom disk radio m device confs new
      → IsRestarted disk radio m old new
  anew m device old new confs is shown keeps left one configured begun =
      let core = (durable_of old).core in
      let own = device_of (durable_of old) in
      let of_own : IsBegunFrom disk radio m own confs new =
      subst (λ (d : D). IsBegunFrom disk radio m d confs new) is begun in
      record {
        begun = subst (λ cs. IsBegunFrom disk radio m own cs new) configured of_own;
        recovered = λ p honest hs u.
            let flight = (shown p).now hs u (disk.reads own) (left p.imaged.honest) in
            record {
              count = flight.count;
              some_of = flight.some_of;
              is = one (disk.reads own) (durable_of new).core.settled (run core.settled core.confs (take flight.count hs)) (of_own.shown honest) flight.shows;
            };
        kept = λ p honest j stands.
            let kept = keeps p j stands (disk.reads own) (left p.imaged.honest) in
            (kept, one (disk.reads own) (durable_of new).core.settled (after j kept.front) (of_own.shown honest) kept.shows);
      }

  -- what is given up and begun anew is restarted
  pub restarts_ok : (r : Result (Runner D R) ScriptFault) (old : Runner D R) (mid : Runner D R) (confs : List Conf) (slots : List (Slot R)) → AreRenewed confs slots old mid
      → IfOk r (λ new. confs ≡ confs_of mid → map bssid_of slots ≡ map (λ conf. conf.bssid) confs → IsRestarted disk radio mid.moment mid.world new.world)
      → IfOk r (λ new. new ≡ record mid { world = new.world; refusal = None })
      → IfOk r (λ new. Restarts disk radio old new)
  restarts_ok (Ok new) old mid confs slots renewed restarted only =
      let same = renewed.only in
      let configured = renewed.own in
      let world : mid.world ≡ old.world = ap (λ (s : Runner D R). s.world) same in
      let same_moment : mid.moment ≡ old.moment = ap (λ (s : Runner D R). s.moment) same in
      let spares : new.spares ≡ mid.spares = ap (λ (s : Runner D R). s.spares) only in
      let whole = restarted (configured ∙ ap (λ (w : World D R). (durable_of w).core.confs) (sym world)) renewed.each in
      let at_world : IsRestarted disk radio mid.moment old.world new.world = subst (λ (w : World D R). IsRestarted disk radio mid.moment w new.world) world whole in
      record {
        restarted = subst (λ m. IsRestarted disk radio m old.world new.world) same_moment at_world;
        spares = ap (λ s. s.items) spares ∙ renewed.spares ∙ ap (λ cs. drop (length cs) old.spares.items) configured;
        only = only ∙ ap (λ (s : Runner D R). record s { world = new.world; refusal = None }) same ∙ ap (λ s. record old { world = new.world; spares = s; refusal = None }) (sym spares);
      }
  restarts_ok (Err why) old mid confs slots renewed restarted only = tt

  -- and then started
  pub stops_ok : (r : Result (Runner D R) ScriptFault) (old first mid : Runner D R) → Restarts disk radio old first → mid ≡ first
      → IfOk r (λ new. Starts disk radio mid new) → IfOk r (λ new. Stops disk radio old new)
  stops_ok (Ok new) old first mid restarts same starts = record {
    mid = mid;
    restarts = subst (λ (s : Runner D R). Restarts disk radio old s) (sym same) restarts;
    starts = starts;
  }
  stops_ok (Err why) old first mid restarts same starts = tt

  -- ---- why not
  -- by what a device holds
  pub beginning : (why : WorldFault) (device left : D) (confs : List Conf) (slots after : List (Slot R)) → map bssid_of slots ≡ map (λ conf. conf.bssid) confs
      → (why ≡ world_fault.Store store_fault.NotAStore) ⊎ (why ≡ world_fault.Store store_fault.OldVersion) ⊎ (why ≡ world_fault.Store store_fault.Damaged)
      ⊎ (why ≡ world_fault.Store store_fault.Device) ⊎ (why ≡ world_fault.Store store_fault.NoMemory) ⊎ (why ≡ world_fault.NoMemory)
      ⊎ ((b : Bssid) × (fault : SlotFault) × (why ≡ world_fault.Slot b fault) × EndsAtSlot disk radio device left b fault slots after)
      → IsBeginningFault disk radio why device left confs
  beginning why device left confs slots after each (inl is) = subst (λ w. IsBeginningFault disk radio w device left confs) (sym is) (inl refl)
  beginning why device left confs slots after each (inr (inl is)) = subst (λ w. IsBeginningFault disk radio w device left confs) (sym is) (inr (inl refl))
  beginning why device left confs slots after each (inr (inr (inl is))) = subst (λ w. IsBeginningFault disk radio w device left confs) (sym is) (inr (inr (inl refl)))
  beginning why device left confs slots after each (inr (inr (inr (inl is)))) = subst (λ w. IsBeginningFault disk radio w device left confs) (sym is) (inr (inr (inr (inl refl))))
  beginning why device left confs slots after each (inr (inr (inr (inr (inl is))))) = subst (λ w. IsBeginningFault disk radio w device left confs) (sym is) (inr (inr (inr (inr refl))))
  beginning why device left confs slots after each (inr (inr (inr (inr (inr (inl is)))))) = subst (λ w. IsBeginningFault disk radio w device left confs) (sym is) tt
  beginning why device left confs slots after each (inr (inr (inr (inr (inr (inr (b, fault, is, ends))))))) =
      subst (λ w. IsBeginningFault disk radio w device left confs) (sym is) (slots, after, each, ends)

  -- what is given up is not begun anew
  pub unrestarted : (r : Result (Runner D R) ScriptFault) (n : ℕ) (old mid : Runner D R) (confs : List Conf) (slots : List (Slot R)) → AreRenewed confs slots old mid
      → IfErr r (λ why. map bssid_of slots ≡ map (λ conf. conf.bssid) confs → IsBeginFault disk radio (device_of (durable_of mid.world)) confs why)
      → IfErr r (IsSaidFault disk radio n Stop old)
  unrestarted (Ok new) n old mid confs slots renewed h = tt
  unrestarted (Err (fault.World why)) n old mid confs slots renewed h =
      let same_world : mid.world ≡ old.world = ap (λ (s : Runner D R). s.world) renewed.only in
      let here : IsNotBegunFrom disk radio why (device_of (durable_of old.world)) confs =
      subst (λ (w : World D R). IsNotBegunFrom disk radio why (device_of (durable_of w)) confs) same_world (h renewed.each) in
      inl (subst (λ cs. IsNotBegunFrom disk radio why (device_of (durable_of old.world)) cs) renewed.own here)
  unrestarted (Err (fault.BadLine k)) n old mid confs slots renewed h = absurd (h renewed.each)
  unrestarted (Err fault.Reader) n old mid confs slots renewed h = absurd (h renewed.each)
  unrestarted (Err fault.Writer) n old mid confs slots renewed h = absurd (h renewed.each)
  unrestarted (Err fault.NoMemory) n old mid confs slots renewed h = tt

  -- or is, and that could not be printed
  pub unprinted_stop : (why : ScriptFault) (n : ℕ) (old mid : Runner D R) → Restarts disk radio old mid → IsUnwritten why → IsSaidFault disk radio n Stop old why
  unprinted_stop fault.Writer n old mid restarts h = (mid, restarts)
  unprinted_stop fault.NoMemory n old mid restarts h = tt
  unprinted_stop why n old mid restarts h = absurd h

  -- or it is not started
  pub unstarted_stop : (r : Result (Runner D R) ScriptFault) (n : ℕ) (old first mid : Runner D R) → Restarts disk radio old first → mid ≡ first
      → IfErr r (IsStartFault disk radio mid) → IfErr r (IsSaidFault disk radio n Stop old)
  unstarted_stop (Ok new) n old first mid restarts same h = tt
  unstarted_stop (Err fault.Writer) n old first mid restarts same h = (first, restarts)
  unstarted_stop (Err (fault.World why)) n old first mid restarts same h =
      inr (first, restarts, subst (λ (s : Runner D R). (new : World D R) × IsEndedBy disk radio why s.world new) same h)
  unstarted_stop (Err fault.NoMemory) n old first mid restarts same h = tt
  unstarted_stop (Err fault.Reader) n old first mid restarts same h = absurd h
  unstarted_stop (Err (fault.BadLine k)) n old first mid restarts same h = absurd h
