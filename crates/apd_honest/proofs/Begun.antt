-- What worlds come to on a disk that is always honest.
use Rattle.std.proofs.Common.{◌≡◌, ⊎_elim, inl, ℕ, ◌+◌, List, [], ◌∷◌, Option, sym, subst}
use Rattle.apd_base.specs.declared.moment.Moment.{Moment}
use Rattle.apd_conf.specs.declared.conf.Conf.{Conf}
use Rattle.apd_disk.proofs.Moments.{weaker}
use Rattle.apd_disk.specs.Disk.{DiskModel}
use Rattle.apd_flusher.specs.Flushing.{IsSteady}
use Rattle.apd_flusher.specs.Outside.{table_of}
use Rattle.apd_radio.specs.Model.{RadioModel}
use Rattle.apd_script.proofs.Parts.{stays_proper}
use Rattle.apd_script.specs.Lines.{Said, Stop}
use Rattle.apd_script.specs.Script.{AreFoundHonest, AreRun, IsFoundHonest, IsProperAt, IsRun, IsRunOn, IsScriptRun}
use Rattle.apd_script.specs.declared.script.runner.Runner.{Runner}
use Rattle.apd_world.specs.BegunAnew.{IsBegunAnew, IsNotBegunAnew}
use Rattle.apd_world.specs.History.{History, Keeps, after}
use Rattle.apd_world.specs.Outside.{device_of, flusher_of}
use Rattle.apd_world.specs.Proper.{IsProper, IsWhole}
use Rattle.apd_world.specs.SafelyMade.{AreSafelyMade}
use Rattle.apd_world.specs.StandsFor.{StandsFor}
use Rattle.apd_world.specs.WorldParts.{durable_of}
use Rattle.apd_world.specs.declared.durable_core.DurableCore.{DurableCore}
use Rattle.apd_world.specs.declared.fault.WorldFault.{WorldFault}
use Rattle.apd_world.specs.declared.step.Step.{Step}
use Rattle.apd_world.specs.declared.step.Told.{Told}
use Rattle.apd_world.specs.declared.world.World.{World}
use Rattle.apd_honest.specs.Worlds.{IsBegunKeeping, IsBegunOutright, IsNotBegunOutright, LosesNothingTold}
use Rattle.apd_honest.proofs.Marks.{one_mark, unmarked}
use Rattle.apd_honest.proofs.Outright.{both}

module _ {D : Type 0} (disk : DiskModel D) (always : (d : D) → disk.honest d) where
  pub proper_at_first : (new : DurableCore D) → IsWhole disk new → IsSteady disk (flusher_of new) new.core.settled → IsProper disk new
  proper_at_first new whole steady =
      let flusher = flusher_of new in
      let here : IsSteady disk flusher (table_of flusher) = subst (λ s. IsSteady disk flusher s) (sym steady.table) steady in
      record { whole = whole; imaged = record { honest = always (device_of new); stands = inl here } }

  pub begun : (device : D) (confs : List Conf) (m : Moment) (new : DurableCore D) → IsBegunAnew disk device confs m new → IsBegunOutright disk device new
  begun device confs m new h =
      let there = always (device_of new) in
      record {
        honest = both disk always device (device_of new);
        shown = h.shown there;
        recovered = h.recovered there;
        proper = h.proper there;
        images = h.images there;
        any_moment = h.any_moment there;
      }

  pub not_begun : (device left : D) (why : WorldFault) → IsNotBegunAnew disk device left why → IsNotBegunOutright disk device left why
  not_begun device left why h =
      let there = always left in
      let here = disk.reads device in
      record {
        honest = both disk always device left;
        none = ⊎_elim (λ e. unmarked here (h.not_a_store there e).0)
            (⊎_elim (λ e. unmarked here (λ marked. one_mark here marked (h.old_version there e))) (λ e. (h.damaged there e).1));
        not_a_store = h.not_a_store there;
        old_version = h.old_version there;
        damaged = λ e. (h.damaged there e).0;
        durable = h.durable there;
        still = h.still there;
        any_moment = h.any_moment there;
      }

  -- what a history kept is what a world begun from it has
  begun_keeping : (between later : History) (image : List ℕ) → Keeps between later image → IsBegunKeeping disk between later image
  begun_keeping between later image kept = (
    kept,
    λ device confs m next reads anew.
        let recovered : (k : Keeps between later (disk.reads device)) → next.core.settled ≡ after later k.front = anew.recovered (always (device_of next)) between later in
        subst (λ (i : List ℕ). (k : Keeps between later i) → next.core.settled ≡ after later k.front) reads recovered kept,
  )

  module _ {R : Type 0} (radio : RadioModel R) where
    pub losing_nothing : (steps : List Step) (tolds : List Told) (old new : World D R) → AreSafelyMade disk radio steps tolds old new → IsProper disk (durable_of old)
        → (h : History) → StandsFor old h → (count : ℕ) → LosesNothingTold disk radio count steps tolds old new h
    losing_nothing steps tolds old new made proper h stands count =
        let since = made.leads h stands count in
        let from = device_of (durable_of since.mid) in
        let to = device_of (durable_of new) in
        record {
          since = since;
          kept = weaker disk from to (Keeps since.between since.later) (IsBegunKeeping disk since.between since.later) (begun_keeping since.between since.later)
              (since.rest.keeps (since.first.proper proper));
        }

    -- ---- scripts
    found : (n : ℕ) (what : Said) (old new : Runner D R) (h : IsRun disk radio n what old new) → IsFoundHonest disk radio n what old new h
    found n Stop old new h = always (device_of (durable_of h.mid.world))
    found n what old new h = tt

    all_found : (n : ℕ) (texts : List (List ℕ)) (old new : Runner D R) (run : AreRun disk radio n texts old new) → AreFoundHonest disk radio n texts old new run
    all_found n [] old new same = tt
    all_found n (text ∷ texts) old new (mid, one, rest) = (found n one.what old mid one.run, all_found (n + 1) texts mid new rest)

    pub stays_proper_in_a_script : (texts : List (List ℕ)) (w : World D R) (radios : List R) (last : Runner D R) → IsScriptRun disk radio texts w radios last → IsProper disk (durable_of w)
        → IsProperAt disk radio last
    stays_proper_in_a_script texts w radios last h proper = stays_proper disk radio texts w radios last h (all_found 1 texts h.started last h.run) proper

    pub proper_on_a_store : (stops : ℕ) (device : D) (confs : List Conf) (known : Option (List ℕ)) (new : World D R) → IsRunOn disk radio stops device confs known new → IsProper disk (durable_of new)
    proper_on_a_store stops device confs known new h =
        let ends = h.ends in
        let first = h.begun.proper (always (device_of (durable_of h.first))) in
        let last = stays_proper_in_a_script ends.texts h.first h.radios ends.last ends.run first in
        subst (λ (w : World D R). IsProper disk (durable_of w)) (sym ends.world) last
