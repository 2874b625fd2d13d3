-- What running a script does, in the words of its world. What it prints is not spoken of.
use Rattle.std.specs.Prelude.{◌≡◌, ◌≢◌, ℕ, Bool, ◌+◌, ◌*◌, ◌≤◌, ◌⊎◌, List, [], ◌∷◌, map, length, take, drop, Option, None, Some, Result, Ok, Err, IfSome}
use Rattle.std.specs.Option.{option_map, option_or}
use Rattle.apd_base.specs.State.{State}
use Rattle.apd_base.specs.Text.{lines}
use Rattle.apd_base.specs.declared.address.Bssid.{Bssid}
use Rattle.apd_base.specs.declared.limits.TheConstants.{MAX_SCRIPT}
use Rattle.apd_base.specs.declared.moment.Moment.{Moment}
use Rattle.apd_conf.specs.Confs.{conf_meant, conf_named}
use Rattle.apd_conf.specs.declared.conf.Conf.{Conf}
use Rattle.apd_core.specs.Core.{CoreState, new_core}
use Rattle.apd_core.specs.Heard.{AreHeardAt}
use Rattle.apd_core.specs.Requests.{order_happening, happening_said, frame_happening}
use Rattle.apd_core.specs.declared.input.QuietReason.{QuietReason}
use Rattle.apd_ctrl.specs.Placing.{Placing, Asks, Does, command_placing}
use Rattle.apd_ctrl.specs.Reading.{outcome as command_outcome}
use Rattle.apd_ctrl.specs.declared.command.Command.{Command as Order}
use Rattle.apd_ctrl.specs.declared.parser.Refusal.{Refusal}
use Rattle.apd_disk.specs.Disk.{LeavesOnly, DiskModel}
use Rattle.apd_frame.specs.Outcome.{outcome}
use Rattle.apd_event.specs.Happening.{Happening}
use Rattle.apd_mlme.specs.Run.{run}
use Rattle.apd_mlme.specs.declared.decision.Recipient.{Recipient}
use Rattle.apd_radio.specs.Model.{RadioModel}
use Rattle.apd_slot.specs.Slots.{bssid_of}
use Rattle.apd_slot.specs.declared.slot.Slot.{Slot}
use Rattle.apd_store.specs.Image.{Shows}
use Rattle.apd_table.specs.Sound.{Sound}
use Rattle.apd_world.specs.Following.{AreFollowing}
use Rattle.apd_world.specs.CoreRun.{AreUnsettled}
use Rattle.apd_world.specs.History.{History, Keeps, after}
use Rattle.apd_world.specs.Outside.{device_of}
use Rattle.apd_world.specs.Proper.{IsProper}
use Rattle.apd_world.specs.Resumed.{AreResumed}
use Rattle.apd_world.specs.WorldParts.{durable_of, is_up_if, slot_at, slots_of}
use Rattle.apd_world.specs.Ending.{HasGoneOn}
use Rattle.apd_world.specs.HandingOut.{IsHandedOut}
use Rattle.apd_world.specs.Starting.{IsFlushed, IsStarted}
use Rattle.apd_world.specs.SafelyMade.{AreSafelyMade}
use Rattle.apd_world.specs.StandsFor.{BeginsAt, StandsFor}
use Rattle.apd_world.specs.declared.step.Step.{Step}
use Rattle.apd_world.specs.declared.step.Step.TheVariants as step
use Rattle.apd_world.specs.declared.step.Told.{Told}
use Rattle.apd_world.specs.declared.step.Told.TheVariants.{NoMemory}
use Rattle.apd_world.specs.declared.world.World.{World}
use Rattle.apd_script.specs.Lines.{Said, Empty, Received, Tick, Command, Take, Call, Publish, Hand, Flush, Stop, Says}
use Rattle.apd_script.specs.Refused.{refusal_of}
use Rattle.apd_script.specs.declared.script.runner.Runner.{Runner}

-- ---- a script that runs
-- its configurations
abbrev pub confs_of : {D R : Type 0} → Runner D R → List Conf
confs_of s = (durable_of s.world).core.confs

-- its radio is up: a command that asks for its status tells so
abbrev pub is_up_at : {D R : Type 0} → Runner D R → Conf → Bool
is_up_at s conf = is_up_if (slot_at (slots_of s.world) conf.bssid)

-- what a name finds, or where none is given: the BSSID of its interface, and whether its radio is up; or none
abbrev pub found_by : {D R : Type 0} → Runner D R → Option (List ℕ) → Option (Bssid × Bool)
found_by s name = option_map (λ conf. (conf.bssid, is_up_at s conf)) (conf_meant (confs_of s) name)

-- at first: at moment 0, with all radios, and without a refusal
pub record IsBegun {D R : Type 0} (w : World D R) (radios : List R) (s : Runner D R) : Type 0 where
  pub world : s.world ≡ w
  pub moment : s.moment ≡ record { 0 = 0 }
  pub spares : s.spares.items ≡ radios
  pub refusal : s.refusal ≡ None

-- of these configurations, its own, each has one of these slots, and as many radios were taken from the front
pub record AreRenewed {D R : Type 0} (confs : List Conf) (slots : List (Slot R)) (old new : Runner D R) : Type 0 where
  pub own : confs ≡ confs_of old
  pub each : map bssid_of slots ≡ map (λ conf. conf.bssid) confs
  pub spares : new.spares.items ≡ drop (length confs) old.spares.items
  pub only : new ≡ record old { spares = new.spares }

-- the state is the settled one, or that after the batch in flight
pub record IsAfterFlight (s : CoreState) (hs : List Happening) (after : State) : Type 0 where
  pub count : ℕ
  pub some_of : (count ≡ 0) ⊎ (count ≡ s.flight)
  pub is : after ≡ run s.settled s.confs (take count hs)

-- ---- the steps that its lines ask for
-- what a step asks to be accepted, and at which moment
abbrev pub acceptance_of : Step → Option (Option (Result Happening QuietReason) × Moment)
acceptance_of (step.Accept i m) = Some (happening_said i, m)
acceptance_of other = None

module _ {D R : Type 0} (disk : DiskModel D) (radio : RadioModel R) where
  -- the world is proper
  abbrev pub IsProperAt : Runner D R → Type 0
  IsProperAt s = IsProper disk (durable_of s.world)

  -- nothing changes but the world
  abbrev pub OnlyWorldChanges : Runner D R → Runner D R → Type 0
  OnlyWorldChanges old new = new ≡ record old { world = new.world }

  -- this step was made, and told so
  pub record Makes (made : Step) (told : Told) (old new : Runner D R) : Type 0 where
    pub safely : AreSafelyMade disk radio (made ∷ []) (told ∷ []) old.world new.world
    pub only : OnlyWorldChanges old new

  -- one was made, and did not lack memory
  pub record IsMade (made : Step) (old new : Runner D R) : Type 0 where
    pub told : Told
    pub makes : Makes made told old new
    pub memory : told ≢ NoMemory

  -- one was made, which asks for this to be accepted at the moment
  pub record IsRequested (said : Option (Result Happening QuietReason)) (old new : Runner D R) : Type 0 where
    pub request : Step
    pub asks : acceptance_of request ≡ Some (said, old.moment)
    pub made : IsMade request old new

  -- one was made, whatever it told, and the first refusal is kept
  pub record IsTried (made : Step) (old new : Runner D R) : Type 0 where
    pub told : Told
    pub mid : Runner D R
    pub makes : Makes made told old mid
    pub kept : new ≡ record mid { refusal = option_or old.refusal (refusal_of told) }

  -- the frame of a line is received at its interface
  pub record IsReceived (interface frame : List ℕ) (old new : Runner D R) : Type 0 where
    pub conf : Conf
    pub configured : conf_named (confs_of old) interface ≡ Some conf
    pub requested : IsRequested (Some (frame_happening conf.bssid (outcome frame conf.bssid))) old new

  -- what becomes of a command at a BSSID
  abbrev pub IsPlaced : Placing → Runner D R → Runner D R → Type 0
  IsPlaced (Asks query) old new = IsMade (step.Ask query) old new
  IsPlaced (Does h) old new = IsRequested (Some (order_happening h)) old new

  -- at the interface that it means
  abbrev pub IsMeant : ℕ → Order → Option Conf → Runner D R → Runner D R → Type 0
  IsMeant tag order None old new = new ≡ old
  IsMeant tag order (Some conf) old new = IsPlaced (command_placing order conf.bssid (is_up_at old conf) tag) old new

  -- a text is carried out as a command, by what it is; one that is refused makes no step
  abbrev pub IsCarriedOut : ℕ → Result (Option (List ℕ) × Order) Refusal → Runner D R → Runner D R → Type 0
  IsCarriedOut tag (Ok read) old new = IsMeant tag read.1 (conf_meant (confs_of old) read.0) old new
  IsCarriedOut tag (Err refusal) old new = new ≡ old

  -- what is settled is handed out
  pub record HandsOut (old new : Runner D R) : Type 0 where
    pub answers : List (Recipient × Told)
    pub handed : IsHandedOut disk radio [] answers old.world new.world
    pub only : OnlyWorldChanges old new

  -- all is committed, and handed out: where no refusal was met
  pub record Flushes (old new : Runner D R) : Type 0 where
    pub none : old.refusal ≡ None
    pub answers : List (Recipient × Told)
    pub flushed : IsFlushed disk radio [] answers old.world new.world
    pub only : OnlyWorldChanges old new

  -- the interfaces are started
  pub record Starts (old new : Runner D R) : Type 0 where
    pub answers : List (Recipient × Told)
    pub started : IsStarted disk radio answers old.world new.world
    pub only : OnlyWorldChanges old new

  -- A world begun at a moment from what a device reads, of these configurations: its table is the state that the device shows, and it
  -- stands for the history that begins there; its slots, one for each interface, have resumed by that table. It is proper, and a stop until
  -- it is begun leaves what it could leave before.
  pub record IsBegunFrom (m : Moment) (device : D) (confs : List Conf) (new : World D R) : Type 0 where
    pub shown : disk.honest (device_of (durable_of new)) → Shows (disk.reads device) (durable_of new).core.settled
    pub core : (durable_of new).core ≡ new_core (durable_of new).core.settled confs (durable_of new).core.heard
    pub heard : AreHeardAt m (durable_of new).core.settled (durable_of new).core.heard
    pub sound : Sound (durable_of new).core.settled
    pub begins : BeginsAt confs (durable_of new).core.settled new
    pub count : disk.failed (device_of (durable_of new)) ≡ disk.failed device
    pub slots : map bssid_of (slots_of new) ≡ map (λ conf. conf.bssid) confs
    pub resumed : AreResumed radio (durable_of new).core.settled (slots_of new)
    pub following : AreFollowing new
    pub was_honest : disk.honest (device_of (durable_of new)) → disk.honest device
    pub proper : disk.honest (device_of (durable_of new)) → IsProper disk (durable_of new)
    pub any_moment : disk.honest (device_of (durable_of new))
        → LeavesOnly disk device (device_of (durable_of new)) (disk.may_leave device)

  -- A world begun anew at a moment from what the device of another reads, with its configurations. Where that one was proper, the table is
  -- its settled one, or that after its batch in flight; so it is what each history keeps that the other stood for: the state after some of
  -- what happened, from the front, with all that is durable.
  pub record IsRestarted (m : Moment) (old new : World D R) : Type 0 where
    pub begun : IsBegunFrom m (device_of (durable_of old)) (durable_of old).core.confs new
    pub recovered : IsProper disk (durable_of old) → disk.honest (device_of (durable_of new)) → (hs : List Happening)
        → AreUnsettled hs (durable_of old).core → IsAfterFlight (durable_of old).core hs (durable_of new).core.settled
    pub kept : IsProper disk (durable_of old) → disk.honest (device_of (durable_of new)) → (h : History) → StandsFor old h
        → (kept : Keeps h h (disk.reads (device_of (durable_of old)))) × ((durable_of new).core.settled ≡ after h kept.front)

  -- the world is begun anew, with a radio from the front for each interface, and no refusal is known
  pub record Restarts (old new : Runner D R) : Type 0 where
    pub restarted : IsRestarted old.moment old.world new.world
    pub spares : new.spares.items ≡ drop (length (confs_of old)) old.spares.items
    pub only : new ≡ record old { world = new.world; spares = new.spares; refusal = None }

  -- and its interfaces are started
  pub record Stops (old new : Runner D R) : Type 0 where
    pub mid : Runner D R
    pub restarts : Restarts old mid
    pub starts : Starts mid new

  -- ---- lines
  -- the line of a number is run
  abbrev pub IsRun : ℕ → Said → Runner D R → Runner D R → Type 0
  IsRun n Empty old new = new ≡ old
  IsRun n (Received interface frame) old new = IsReceived interface frame old new
  IsRun n (Tick m) old new = IsRequested None (record old { moment = m }) new
  IsRun n (Command text) old new = IsCarriedOut n (command_outcome text) old new
  IsRun n Take old new = IsTried step.Take old new
  IsRun n Call old new = IsTried step.Call old new
  IsRun n Publish old new = IsTried step.Publish old new
  IsRun n Hand old new = HandsOut old new
  IsRun n Flush old new = Flushes old new
  IsRun n Stop old new = Stops old new

  -- a text says something, which is run; but for a stop, by steps alone
  pub record SaysAndIsRun (n : ℕ) (text : List ℕ) (old new : Runner D R) : Type 0 where
    pub what : Said
    pub says : Says text what
    pub run : IsRun n what old new
    pub safely : what ≢ Stop → HasGoneOn disk radio old.world new.world

  -- texts are run one after the other, the first of which has this number
  abbrev pub AreRun : ℕ → List (List ℕ) → Runner D R → Runner D R → Type 0
  AreRun n [] old new = new ≡ old
  AreRun n (text ∷ texts) old new = (mid : Runner D R) × SaysAndIsRun n text old mid × AreRun (n + 1) texts mid new

  -- a stop found the device honest, where the line is one
  abbrev pub IsFoundHonest : (n : ℕ) (what : Said) (old new : Runner D R) → IsRun n what old new → Type 0
  IsFoundHonest n Stop old new h = disk.honest (device_of (durable_of h.mid.world))
  IsFoundHonest n what old new h = Unit {0}

  -- each stop did
  abbrev pub AreFoundHonest : (n : ℕ) (texts : List (List ℕ)) (old new : Runner D R) → AreRun n texts old new → Type 0
  AreFoundHonest n [] old new same = Unit {0}
  AreFoundHonest n (text ∷ texts) old new (mid, one, rest) =
      IsFoundHonest n one.what old mid one.run × AreFoundHonest (n + 1) texts mid new rest

  -- the interfaces are started, and then the lines of a script are run
  pub record IsScriptRun (texts : List (List ℕ)) (w : World D R) (radios : List R) (last : Runner D R) : Type 0 where
    pub first : Runner D R
    pub begun : IsBegun w radios first
    pub started : Runner D R
    pub starts : Starts first started
    pub run : AreRun 1 texts started last

  -- a script is run to its end; where it is known what the reader gives, these are all its lines
  pub record Ends (known : Option (List ℕ)) (radios : List R) (old new : World D R) : Type 0 where
    pub texts : List (List ℕ)
    pub whole : IfSome known (λ script. (length script ≤ MAX_SCRIPT) × (lines script ≡ texts))
    pub last : Runner D R
    pub run : IsScriptRun texts old radios last
    pub world : new ≡ last.world

  -- ---- on the store of a device
  -- A script is run to its end on the store of a device: a world of these configurations is begun from it at moment 0, with as many radios
  -- besides as so many stops of each interface take, and from there the script ends so.
  pub record IsRunOn (stops : ℕ) (device : D) (confs : List Conf) (known : Option (List ℕ))
      (new : World D R) : Type 0 where
    pub first : World D R
    pub begun : IsBegunFrom (record { 0 = 0 }) device confs first
    pub radios : List R
    pub enough : length radios ≡ stops * length confs
    pub ends : Ends known radios first new
