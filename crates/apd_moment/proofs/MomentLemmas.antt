-- The law of a moment.
use Rattle.std.proofs.Common.{◌≡◌, ℕ, Bool, List, [], ◌++◌, drop, Option, refl, sym, ap, ◌∙◌, append_assoc}
use Rattle.std.proofs.lemmas.List.{append-nil}
use mathlib.Core.List.{IsPrefix}
use Rattle.apd_base.specs.State.{State}
use Rattle.apd_disk.specs.Disk.{DiskModel}
use Rattle.apd_disk.proofs.Moments.{weaker}
use Rattle.apd_flusher.specs.Committing.{IsImaged, IsWhole, ShowsEither}
use Rattle.apd_flusher.specs.Outside.{flusher_device, flusher_of}
use Rattle.apd_flusher.specs.declared.committer.Committer.{Committer}
use Rattle.apd_history.specs.Chain.{Call, given_by}
use Rattle.apd_journal.specs.declared.batch.Batch.{Batch}
use Rattle.apd_mlme.specs.declared.decision.Recipient.{Recipient}
use Rattle.apd_world.specs.History.{History, Keeps}
use Rattle.apd_world.specs.Proper.{IsProper}
use Rattle.apd_world.specs.Shown.{flight_of, ShowsEither as ShowsCore}
use Rattle.apd_world.specs.declared.durable_core.DurableCore.{DurableCore}
use Rattle.apd_world.proofs.CoreHistories.{flight_kept}
use Rattle.apd_world.proofs.DurableSteps.{shows_flight}
use Rattle.apd_moment.specs.Moment.{IsMoment, IsSeen, StandsForCore, committers_device, durable_at}
use Rattle.apd_moment.specs.Parts.{parts_of}
use Rattle.apd_moment.proofs.Calls.{given_by-append}
use Rattle.apd_moment.proofs.Histories.{Ends, all_end, none}
use Rattle.apd_moment.proofs.Merging.{Leads, Stops, all_lead, safe_here}

module _ {D : Type 0} (disk : DiskModel D) (begun : DurableCore D) (h : History) (proper : IsProper disk begun) (stands : StandsForCore begun [] h) (all front : List Call) (c : Committer D)
    (seen : IsSeen disk begun all front c)
    (now : (s : State) (flight : Option Batch) (failed : Bool) → IsWhole disk c s flight failed → IsImaged disk c → (image : List ℕ) → disk.may_leave (flusher_device (flusher_of c)) image → ShowsEither s flight image)
    (stops : Stops disk c) where
  abbrev here : DurableCore D
  here = durable_at begun all c

  list : Leads disk (parts_of seen.run.steps) all begun here
  list = all_lead disk begun seen.run.steps front all c seen.run.are seen.calls seen.front_is seen.alone stops

  ends : Ends disk list.parts all begun here h
  ends = all_end disk list.parts all begun here h list.are (safe_here disk here stops) stands

  abbrev later : History
  later = ends.k

  -- an image of the settled table, or of that after the batch in flight
  keeps_now : (image : List ℕ) → ShowsCore here.core image → Keeps later later image
  keeps_now image either =
      flight_kept later here.core none ends.stands [] later image refl refl (sym (append-nil later.happened))
      (shows_flight here.core (drop later.durable later.happened) ends.stands.unsettled image either)

  given_so : (r : Recipient) → later.given r ≡ h.given r ++ given_by r all
  given_so r = ap (λ (z : History). z.given r) ends.goes_on.only

  told_so : (seen_by : List Call) → IsPrefix seen_by all → (r : Recipient) → IsPrefix (h.given r ++ given_by r seen_by) (later.given r)
  told_so seen_by prefix r =
      let rest = given_by r prefix.0 in (
        rest,
        append_assoc (h.given r) (given_by r seen_by) rest
            ∙ ap (λ os. h.given r ++ os) (sym (given_by-append r seen_by prefix.0) ∙ ap (given_by r) prefix.1) ∙ sym (given_so r),
      )

  pub is_moment : IsMoment disk begun h all front c seen
  is_moment =
      let s = here.core in
      let p = ends.proper proper in
      record {
        parts = list.parts;
        list = list.are;
        own = list.own_are;
        later = later;
        stands = ends.stands;
        goes_on = ends.goes_on;
        keeps = λ image left. keeps_now image (now s.settled (flight_of s) s.failed p.whole p.imaged image left);
        since = ends.since proper;
        told = told_so;
        read = ends.read;
        within = λ step then next is.
            weaker disk (committers_device c) (committers_device next) (ShowsCore s) (Keeps later later) keeps_now
            (is.since s.settled (flight_of s) s.failed p.whole p.imaged);
      }
