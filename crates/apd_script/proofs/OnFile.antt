-- A script on the store of a file, from what its world's steps do.
use Rattle.std.proofs.Common.{◌≡◌, ◌++◌, ℕ, List, sym, subst}
use Rattle.std.specs.Prelude.{Option}
use Rattle.apd_conf.specs.declared.conf.Conf.{Conf}
use Rattle.apd_disk.specs.FileCalls.{FileCall, FileLeaves}
use Rattle.apd_disk.specs.FileModel.{file_model}
use Rattle.apd_disk.specs.FileMore.{HasMore, has_more}
use Rattle.apd_disk.specs.SystemFile.{FileDisk}
use Rattle.apd_disk.specs.declared.record.FileRecord.{FileRecord}
use Rattle.apd_radio.specs.Model.{RadioModel}
use Rattle.apd_world.specs.History.{History, Keeps}
use Rattle.apd_world.specs.Outside.{device_of}
use Rattle.apd_world.specs.Proper.{IsProper}
use Rattle.apd_world.specs.SafelyMade.{LeadsSince}
use Rattle.apd_world.specs.StandsFor.{StandsFor}
use Rattle.apd_world.specs.WorldParts.{durable_of}
use Rattle.apd_world.specs.declared.step.Step.{Step}
use Rattle.apd_world.specs.declared.step.Told.{Told}
use Rattle.apd_world.specs.declared.world.World.{World}
use Rattle.apd_script.specs.Lines.{HaveNoStop}
use Rattle.apd_script.specs.OnFile.{first_history, IsFoundInFile, IsRunOnFile}
use Rattle.apd_script.specs.Script.{IsBegunFrom, IsProperAt, IsRunOn, IsScriptRun}
use Rattle.apd_script.specs.declared.script.runner.Runner.{Runner}
use Rattle.apd_script.proofs.Parts.{by_part, script_goes_on, stays_proper}

module _ {R : Type 0} (radio : RadioModel R) (known : FileRecord) (confs : List Conf) where
  -- whatever is run from where a world was begun
  since : (first : World FileDisk R) → StandsFor first (first_history radio confs first)
      → (front : List (List ℕ)) (radios : List R) (last : Runner FileDisk R) → IsScriptRun file_model radio front first radios last → HaveNoStop front
      → (steps : List Step) × (tolds : List Told) × ((count : ℕ) → LeadsSince file_model radio count steps tolds first last.world (first_history radio confs first))
  since first begins front radios last h none =
      let goes = by_part file_model radio 1 front h.first h.started last h.starts none h.run in
      let same : h.first.world ≡ first = h.begun.world in
      let stands : StandsFor h.first.world (first_history radio confs first) = subst (λ (w : World FileDisk R). StandsFor w (first_history radio confs first)) (sym same) begins in (
        goes.steps,
        goes.tolds,
        subst (λ (w : World FileDisk R). (count : ℕ) → LeadsSince file_model radio count goes.steps goes.tolds w last.world (first_history radio confs first)) same
            (goes.made.leads (first_history radio confs first) stands),
      )

  found : (file : FileDisk) (first : World FileDisk R) → IsBegunFrom file_model radio (record { 0 = 0 }) (record file { known = known }) confs first
      → file_model.honest (device_of (durable_of first)) → IsFoundInFile radio known confs first
  found file first begun honest = record {
    file = (begun.any_moment honest).goes_on;
    shown = begun.shown honest;
    proper = begun.proper honest;
    begins = begun.begins;
    kept = since first begun.begins;
  }

  -- what a record says, by the one with more calls
  leaves_of : (new : FileRecord) (more : HasMore known new) (image : List ℕ) → FileLeaves known.held (more.since ++ known.calls) image
      → FileLeaves new.held new.calls image
  leaves_of new more image left =
      subst (λ (held : List ℕ). FileLeaves held new.calls image) (sym more.held)
      (subst (λ (calls : List FileCall). FileLeaves known.held calls image) (sym more.calls) left)

  pub runs_on_file : (stops : ℕ) (file given : FileDisk) (script : Option (List ℕ)) (new : World FileDisk R) → given ≡ record file { known = known }
      → IsRunOn file_model radio stops given confs script new
      → (IsProper file_model (durable_of new)
      → (j : History) → StandsFor new j → (image : List ℕ) → file_model.may_leave (device_of (durable_of new)) image → Keeps j j image)
      → IsRunOnFile radio stops file known confs script new
  runs_on_file stops file given script new is run_of keeps =
      let run : IsRunOn file_model radio stops (record file { known = known }) confs script new =
      subst (λ (d : FileDisk). IsRunOn file_model radio stops d confs script new) is run_of in
      record {
        run = run;
        found = found file run.first run.begun;
        last = λ honest each.
            let ends = run.ends in
            let begun = run.begun.proper honest in
            let there : IsProperAt file_model radio ends.last = stays_proper file_model radio ends.texts run.first run.radios ends.last ends.run each begun in
            let proper : IsProper file_model (durable_of new) = subst (λ (w : World FileDisk R). IsProper file_model (durable_of w)) (sym ends.world) there in
            let on : HasMore (device_of (durable_of run.first)).known (device_of (durable_of new)).known =
            subst (λ (w : World FileDisk R). HasMore (device_of (durable_of run.first)).known (device_of (durable_of w)).known) (sym ends.world)
            (script_goes_on file_model radio ends.texts run.first run.radios ends.last ends.run each begun) in
            let all = has_more known (device_of (durable_of run.first)).known (device_of (durable_of new)).known (run.begun.any_moment honest).goes_on on in
            record {
              proper = proper;
              file = all;
              kept = λ j stands image left. keeps proper j stands image (leaves_of (device_of (durable_of new)).known all image left);
            };
      }
