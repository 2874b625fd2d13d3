-- A script on the store of a file: what is so where its answers were those of a file that held what is known of it (own).
use Rattle.std.specs.Prelude.{ℕ, List, ◌++◌, Option}
use Rattle.apd_conf.specs.declared.conf.Conf.{Conf}
use Rattle.apd_disk.specs.FileCalls.{file_reads, FileLeaves}
use Rattle.apd_disk.specs.FileModel.{file_model}
use Rattle.apd_disk.specs.FileMore.{HasMore}
use Rattle.apd_disk.specs.SystemFile.{FileDisk}
use Rattle.apd_disk.specs.declared.record.FileRecord.{FileRecord}
use Rattle.apd_radio.specs.Model.{RadioModel}
use Rattle.apd_store.specs.Image.{Shows}
use Rattle.apd_world.specs.History.{History, Keeps, blank}
use Rattle.apd_world.specs.Outside.{device_of}
use Rattle.apd_world.specs.Proper.{IsProper}
use Rattle.apd_world.specs.SafelyMade.{LeadsSince}
use Rattle.apd_world.specs.StandsFor.{StandsFor}
use Rattle.apd_world.specs.WorldParts.{durable_of}
use Rattle.apd_world.specs.declared.step.Step.{Step}
use Rattle.apd_world.specs.declared.step.Told.{Told}
use Rattle.apd_world.specs.declared.world.World.{World}
use Rattle.apd_script.specs.Lines.{HaveNoStop}
use Rattle.apd_script.specs.Script.{AreFoundHonest, IsRunOn, IsScriptRun}
use Rattle.apd_script.specs.declared.script.runner.Runner.{Runner}

module _ {R : Type 0} (radio : RadioModel R) where
  -- the history that begins at a world's table, where nothing has happened yet
  abbrev pub first_history : List Conf → World FileDisk R → History
  first_history confs w = blank confs (durable_of w).core.settled (durable_of w).core.heard

  -- A world begun from a file, which was called since: its table is the state that the bytes show, it is proper, and it stands for the
  -- history that begins there. Whatever lines without a stop are run from it, they lead on from that history, and what a stop leaves
  -- meanwhile keeps it.
  pub record IsFoundInFile (known : FileRecord) (confs : List Conf) (first : World FileDisk R) : Type 0 where
    pub file : HasMore known (device_of (durable_of first)).known
    pub shown : Shows (file_reads known.held known.calls) (durable_of first).core.settled
    pub proper : IsProper file_model (durable_of first)
    pub begins : StandsFor first (first_history confs first)
    pub kept : (front : List (List ℕ)) (radios : List R) (last : Runner FileDisk R)
        → IsScriptRun file_model radio front first radios last → HaveNoStop front
        → (steps : List Step) × (tolds : List Told) × ((count : ℕ) → LeadsSince file_model radio count steps tolds first last.world (first_history confs first))

  -- A world's file is the one of which this was known, and was called since: what a stop now leaves of what it held then keeps each history
  -- that the world stands for.
  pub record IsKeptInFile (known : FileRecord) (w : World FileDisk R) : Type 0 where
    pub proper : IsProper file_model (durable_of w)
    pub file : HasMore known (device_of (durable_of w)).known
    pub kept : (h : History) → StandsFor w h → (image : List ℕ) → FileLeaves known.held (file.since ++ known.calls) image → Keeps h h image

  -- A script is run to its end on the store of this file, of which this is known: where the file's answers until the world was begun were
  -- those of one that held it; and at the end, where each stop found them so as well.
  pub record IsRunOnFile (stops : ℕ) (file : FileDisk) (known : FileRecord) (confs : List Conf) (script : Option (List ℕ))
      (new : World FileDisk R) : Type 0 where
    pub run : IsRunOn file_model radio stops (record file { known = known }) confs script new
    pub found : file_model.honest (device_of (durable_of run.first)) → IsFoundInFile known confs run.first
    pub last : file_model.honest (device_of (durable_of run.first))
        → AreFoundHonest file_model radio 1 run.ends.texts run.ends.run.started run.ends.last run.ends.run.run
        → IsKeptInFile known new
