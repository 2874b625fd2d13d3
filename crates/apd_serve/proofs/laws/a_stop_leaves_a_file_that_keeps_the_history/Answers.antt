use Rattle.std.proofs.Common.{◌≡◌, ◌≤◌, ◌++◌, ◌∙◌, ℕ, List, [], length, take, drop, ap, sym, subst, arith}
use Rattle.std.proofs.lemmas.List.{drop_all, take-append-drop}
use Rattle.apd_disk.specs.FileCalls.{FileCall, FileLeaves, FileLeftSince}
use Rattle.apd_disk.specs.for_proofs.FileLaws.{now_since}
use Rattle.apd_disk.specs.FileModel.{file_model}
use Rattle.apd_disk.specs.FileMore.{HasMore, has_more}
use Rattle.apd_site.specs.StoreDisk.{StoreDisk}
use Rattle.apd_disk.specs.declared.record.FileRecord.{FileRecord}
use Rattle.apd_radio.specs.Model.{RadioModel}
use Rattle.apd_world.specs.History.{History}
use Rattle.apd_world.specs.SafelyMade.{AreMadeInTurn}
use Rattle.apd_world.specs.StandsFor.{LeadsTo, StandsFor}
use Rattle.apd_world.specs.WorldParts.{durable_of}
use Rattle.apd_world.specs.declared.step.Step.{Step}
use Rattle.apd_world.specs.declared.step.Told.{Told}
use Rattle.apd_world.specs.declared.world.World.{World}
use Rattle.apd_serve.specs.FileWorld.{file_of, first_history}
use Rattle.apd_serve.proofs.laws.a_stop_leaves_a_file_that_keeps_the_history.Goals as goal

-- what a record says, by the one with more calls
leaves_of : (known new : FileRecord) (more : HasMore known new) (image : List ℕ)
    → FileLeaves known.held (more.since ++ known.calls) image → FileLeaves new.held new.calls image
leaves_of known new more image left =
    subst (λ (held : List ℕ). FileLeaves held new.calls image) (sym more.held)
    (subst (λ (calls : List FileCall). FileLeaves known.held calls image) (sym more.calls) left)

since_of : (known mid new : FileRecord) (before : HasMore known mid) (behind : HasMore mid new) (image : List ℕ)
    → FileLeftSince known.held (behind.since ++ (before.since ++ known.calls)) (length (before.since ++ known.calls)) image
    → FileLeftSince new.held new.calls (length mid.calls) image
since_of known mid new before behind image left =
    subst (λ (held : List ℕ). FileLeftSince held new.calls (length mid.calls) image) (sym (behind.held ∙ before.held))
    (subst (λ (calls : List FileCall). FileLeftSince known.held calls (length mid.calls) image) (sym behind.calls)
    (subst (λ (calls : List FileCall). FileLeftSince known.held (behind.since ++ calls) (length calls) image)
    (sym before.calls) left))

module _ {R : Type 0} (mid new : World StoreDisk R) where
  -- no steps leave the world
  none_made : (radio : RadioModel R) (steps : List Step) (tolds : List Told) → steps ≡ [] → tolds ≡ []
      → AreMadeInTurn file_model radio steps tolds mid new → new ≡ mid
  none_made radio steps tolds no_step no_told made =
      (subst (λ (ts : List Told). AreMadeInTurn file_model radio [] ts mid new) no_told
      (subst (λ (xs : List Step). AreMadeInTurn file_model radio xs tolds mid new) no_step made)).0

  -- and no more of its history is durable
  as_durable : (between later : History) → new ≡ mid → StandsFor mid between → StandsFor new later
      → later.before ≡ between.before → later.durable ≤ between.durable
  as_durable between later same was is before =
      omega (arith, was.number, is.number, before, ap (λ (w : World StoreDisk R). (durable_of w).core.number) same)

pub returns-clause-now : goal.returns-clause-now
returns-clause-now g c = λ known confs steps tolds begun new over made.
    let n = length steps in
    let j = first_history over in
    let since = made.leads j over.begins n in
    let joined = c.histories_join.ensures.leads (take n steps) (drop n steps) (take n tolds) (drop n tolds) begun
    since.mid new j since.between since.later since.first.leads since.rest.leads in
    let leads : LeadsTo steps tolds begun new j since.later =
    subst (λ (ts : List Told). LeadsTo steps ts begun new j since.later) (take-append-drop n tolds)
    (subst (λ (xs : List Step). LeadsTo xs (take n tolds ++ drop n tolds) begun new j since.later)
    (take-append-drop n steps) joined) in
    let same = none_made since.mid new g.R.Radio.model (drop n steps) (drop n tolds)
    (drop_all n steps (omega arith)) (drop_all n tolds (omega (arith, leads.each))) since.others in
    let no_more = as_durable since.mid new since.between since.later same since.first.leads.stands since.rest.leads.stands
    (ap (λ (k : History). k.before) since.rest.leads.goes_on.only) in
    let first = since.first.keeps over.proper in
    let rest = since.rest.keeps (since.first.proper over.proper) in
    let file = has_more known (file_of since.mid).known (file_of new).known
    (has_more known (file_of begun).known (file_of since.mid).known over.file first.goes_on) rest.goes_on in
    record {
      history = since.later;
      leads = leads;
      file = file;
      keeps = λ image left.
          let kept = rest.each image (now_since _ _ _ image (leaves_of known (file_of new).known file image left)) in
          record {
            front = kept.front;
            all_durable = omega (arith, no_more, kept.all_durable);
            within = kept.within;
            shows = kept.shows;
          };
    }

pub returns-clause-since : goal.returns-clause-since
returns-clause-since g c = λ known confs steps tolds begun new over made count.
    let since = made.leads (first_history over) over.begins count in
    let first = since.first.keeps over.proper in
    let rest = since.rest.keeps (since.first.proper over.proper) in
    let before = has_more known (file_of begun).known (file_of since.mid).known over.file first.goes_on in
    record {
      since = since;
      before = before;
      behind = rest.goes_on;
      keeps = λ image left.
          rest.each image (since_of known (file_of since.mid).known (file_of new).known before rest.goes_on image left);
    }

pub returns-clause-next : goal.returns-clause-next
returns-clause-next g c = λ known confs world over old last kept.
    c.an_image_shows_one_state.ensures _ _ _ over.shows kept.shows
