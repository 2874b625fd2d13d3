-- A world whose core was told to fail; and the committing worker's run, as a world makes it.
use Rattle.std.proofs.Common.{◌≡◌, true, List, [], ◌∷◌, ◌++◌, refl, sym, ap, subst, ◌∙◌}
use Rattle.std.specs.Prelude.{map}
use Rattle.apd_steps.specs.Calls.{exactly}
use Rattle.apd_steps.specs.Run as steps
use Rattle.apd_world.specs.History.{History}
use Rattle.apd_world.specs.StandsFor.{LeadsSafely, StandsFor, waiting_outs}
use Rattle.apd_world.specs.WorkerRun.{AreParts, IsPart, part_of, told_called, told_published, told_taken}
use Rattle.apd_world.proofs.Words.{AreFollowing, Call, Committer, Control, CoreState, DiskModel, DurableCore, IsFailed, IsSafe, Out, Publish, Radio, RadioModel, Recipient, Take, World, durable_of, flight_of, ready_for}
use Rattle.apd_world.proofs.FromSteps.{calls, fails, publishes_made, takes_made}
use Rattle.apd_world.proofs.HistoryLemmas.{still_leads}
use Rattle.apd_world.proofs.RunLemmas.{one_made}

module _ {D R : Type 0} (disk : DiskModel D) (old new : World D R) (h : IsFailed disk old new) where
  pub failed_follows : AreFollowing old → AreFollowing new
  failed_follows follows = subst (λ (w : World D R). AreFollowing w) (sym h.only) follows

  waits_so : (d : DurableCore D) (r : Recipient) → waiting_outs r (record old { durable = d }) ≡ waiting_outs r old
  waits_so d (Radio b) = refl
  waits_so d Control = refl

  pub failed_leads : (j : History) → StandsFor old j → LeadsSafely disk [] [] old new j j
  failed_leads j stands = still_leads disk old new j h.safe stands
      (subst (λ (w : World D R). StandsFor w j) (sym h.only)
      (record {
        history = stands.history;
        confs = stands.confs;
        number = stands.number;
        settled = stands.settled;
        unsettled = stands.unsettled;
        held = stands.held;
        heard_so = stands.heard_so;
        waiting = λ r. stands.waiting r ∙ ap (λ (outs : List Out). outs ++ ready_for r (durable_of old).core) (sym (waits_so (record (durable_of old) { core = record (durable_of old).core { failed = true } }) r));
      }))

-- ---- the worker's run
module _ {D R : Type 0} (disk : DiskModel D) (radio : RadioModel R) (w : World D R) where
  abbrev with_both : CoreState → Committer D → DurableCore D
  with_both core committer = record { core = core; committer = committer }

  abbrev at : DurableCore D → World D R
  at d = record w { durable = d }

  part_made : (step : steps.Step) (core after : CoreState) (c e : Committer D) → steps.IsStep disk exactly step core after c e
      → IsSafe disk (with_both core c) (with_both core c) → IsSafe disk (with_both after e) (with_both after e)
      → IsPart disk radio (part_of step) (at (with_both core c)) (at (with_both after e))
  part_made (steps.Take given told) core after c e is first last =
      let d = with_both core c in
      let f = with_both after e in
      let both = takes_made disk d f given told is in
      one_made disk radio Take (told_taken told) (at d) (at f) (record { inside = told_taken told; durable = both.0; joins = (refl, refl) }) both.1 (first, last)
  part_made (steps.Call told) core after c e is first last =
      let d = with_both core c in
      let f = with_both after e in
      let both = calls disk d f told is in
      one_made disk radio Call (told_called told) (at d) (at f) (record { inside = told_called told; durable = both.0; joins = (refl, refl) }) both.1 (first, last)
  part_made (steps.Publish receipt told) core after c e is first last =
      let d = with_both core c in
      let f = with_both after e in
      let both = publishes_made disk d f receipt told is in
      one_made disk radio Publish (told_published told) (at d) (at f) (record { inside = told_published told; durable = both.0; joins = (refl, refl) }) both.1 (first, last)
  part_made steps.Fail core after c e is first last =
      let both = fails disk (with_both core c) (with_both after e) is in
      record { only = λ i. at (both.0 i); safe = both.1 }

  -- a stop before a step is safe
  safe_before : (step : steps.Step) (core after : CoreState) (c e : Committer D) → steps.IsStep disk exactly step core after c e
      → IsSafe disk (with_both core c) (with_both core c)
  safe_before step core after c e is =
      record { whole = λ h. h; proper = λ p. p; inside = λ p. is.before core.settled (flight_of core) core.failed p.whole p.imaged }

  pub parts_made : (all : List steps.Step) (core after : CoreState) (c e : Committer D) → steps.AreSteps disk exactly all core after c e
      → IsSafe disk (with_both after e) (with_both after e)
      → AreParts disk radio (map part_of all) (at (with_both core c)) (at (with_both after e))
  parts_made [] core after c e are last = λ i. at (with_both (are.0 i) (are.1 i))
  parts_made (step ∷ before) core after c e are last =
      let here = safe_before step are.0 after are.1 e are.3 in (
        at (with_both are.0 are.1),
        parts_made before core are.0 c are.1 are.2 here,
        part_made step are.0 after are.1 e are.3 here last,
      )
