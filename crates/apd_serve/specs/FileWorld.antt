-- A world over the file of a store, whatever the file held, and whatever calls were made of it.
use Rattle.apd_base.specs.State.{State}
use Rattle.apd_base.specs.declared.moment.Moment.{Moment}
use Rattle.apd_conf.specs.declared.conf.Conf.{Conf}
use Rattle.apd_core.specs.Heard.{AreHeardAt}
use Rattle.std.specs.Prelude.{◌≡◌, ◌≤◌, ℕ, List, ◌++◌, length, map, take, Option}
use Rattle.apd_disk.specs.FileCalls.{FileLeaves, FileLeftSince, file_reads}
use Rattle.apd_disk.specs.FileModel.{file_model}
use Rattle.apd_disk.specs.FileMore.{HasMore}
use Rattle.apd_site.specs.StoreDisk.{StoreDisk}
use Rattle.apd_disk.specs.declared.record.FileRecord.{FileRecord}
use Rattle.apd_radio.specs.Model.{RadioModel}
use Rattle.apd_slot.specs.Slots.{bssid_of, radio_of}
use Rattle.apd_store.specs.Image.{Shows}
use Rattle.apd_store.specs.Recovery.{IsRecovered}
use Rattle.apd_world.specs.Following.{AreFollowing}
use Rattle.apd_world.specs.History.{History, Keeps, blank}
use Rattle.apd_world.specs.Outside.{device_of}
use Rattle.apd_world.specs.Proper.{IsProper}
use Rattle.apd_world.specs.Resumed.{AreResumed}
use Rattle.apd_world.specs.SafelyMade.{LeadsSince}
use Rattle.apd_world.specs.StandsFor.{BeginsAt, LeadsTo}
use Rattle.apd_world.specs.WorldParts.{durable_of, slots_of}
use Rattle.apd_world.specs.declared.step.Step.{Step}
use Rattle.apd_world.specs.declared.step.Told.{Told}
use Rattle.apd_world.specs.declared.world.World.{World}
use Rattle.apd_serve.specs.declared.beginning.OpenStore.{OpenStore}

-- A store and its table were recovered from a file of which this was known. What is so of an honest file alone is so
-- where the file has answered, also in the recovery, as one that held what was known.
pub record IsRecoveredFrom (known : FileRecord) (opened : OpenStore) : Type 0 where
  pub file : StoreDisk
  pub knows : file.known ≡ known
  pub recovered : IsRecovered file_model file opened.store opened.table

-- the file of a world's store
abbrev pub file_of : {R : Type 0} → World StoreDisk R → StoreDisk
file_of world = device_of (durable_of world)

-- A world over a file of which this was known: that file has been called since, and the world stands for the history that
-- begins at the state that its bytes show; and it is proper, so that from here on a stop is spoken of.
pub record IsBegunOver {R : Type 0} (known : FileRecord) (confs : List Conf) (world : World StoreDisk R) : Type 0 where
  pub file : HasMore known (file_of world).known
  pub table : State
  pub shows : Shows (file_reads known.held known.calls) table
  pub begins : BeginsAt confs table world
  pub proper : IsProper file_model (durable_of world)

-- Whatever the file held: each station was heard last at this moment, and each slot has resumed by the table, and follows
-- it. Where there is a radio for each configuration, there is a slot for each, in their order, and the radio at the same
-- place receives its frames.
pub record IsBegunAt {R : Type 0} (radio : RadioModel R) (frames : R → Option (List (List ℕ))) (m : Moment)
    (confs : List Conf) (radios : List R) (world : World StoreDisk R) : Type 0 where
  pub heard : AreHeardAt m (durable_of world).core.settled (durable_of world).core.heard
  pub slots : length confs ≤ length radios → map bssid_of (slots_of world) ≡ map (λ conf. conf.bssid) confs
  pub radios_are : length confs ≤ length radios
      → map (λ slot. frames (radio_of slot)) (slots_of world) ≡ map frames (take (length confs) radios)
  pub resumed : AreResumed radio (durable_of world).core.settled (slots_of world)
  pub following : AreFollowing world

-- the history that begins there
abbrev pub first_history : {R : Type 0} {known : FileRecord} {confs : List Conf} {world : World StoreDisk R}
    → IsBegunOver known confs world → History
first_history {R} {known} {confs} {world} over = blank confs over.table (durable_of world).core.heard

-- Steps that told so lead to a history. The file is the one of which this was known, and was called since: each image that
-- a stop now may leave of what it held then, by the calls that were known and those since, keeps the history.
pub record IsKept {R : Type 0} (known : FileRecord) (steps : List Step) (tolds : List Told)
    (old new : World StoreDisk R) (h : History) : Type 0 where
  pub history : History
  pub leads : LeadsTo steps tolds old new h history
  pub file : HasMore known (file_of new).known
  pub keeps : (image : List ℕ) → FileLeaves known.held (file.since ++ known.calls) image → Keeps history history image

-- So many of the steps had been made, and the others lead on. The file was called until then, and was called after it: each
-- image of a stop at any moment since then keeps what the history had by then.
pub record IsKeptSince {R : Type 0} (radio : RadioModel R) (known : FileRecord) (count : ℕ) (steps : List Step)
    (tolds : List Told) (old new : World StoreDisk R) (h : History) : Type 0 where
  pub since : LeadsSince file_model radio count steps tolds old new h
  pub before : HasMore known (file_of since.mid).known
  pub behind : HasMore (file_of since.mid).known (file_of new).known
  pub keeps : (image : List ℕ)
      → FileLeftSince known.held (behind.since ++ (before.since ++ known.calls)) (length (before.since ++ known.calls)) image
      → Keeps since.between since.later image
