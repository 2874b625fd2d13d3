-- Lines without a stop are steps that are safely made, and lines of any kind keep a world proper.
use Rattle.std.proofs.Common.{◌≡◌, ℕ, ◌+◌, List, [], ◌∷◌, ◌++◌, Option, Some, None, Result, Ok, Err, refl, sym, subst}
use Rattle.std.specs.Prelude.{◌≢◌, map}
use Rattle.apd_conf.specs.Confs.{conf_meant}
use Rattle.apd_conf.specs.declared.conf.Conf.{Conf}
use Rattle.apd_disk.specs.Disk.{DiskModel}
use Rattle.apd_ctrl.specs.Placing.{Placing, Asks, Does}
use Rattle.apd_ctrl.specs.Reading.{outcome as command_outcome}
use Rattle.apd_ctrl.specs.declared.command.Command.{Command as Order}
use Rattle.apd_ctrl.specs.declared.parser.Refusal.{Refusal}
use Rattle.apd_core.specs.declared.input.QuietReason.{QuietReason}
use Rattle.apd_event.specs.Happening.{Happening}
use Rattle.apd_radio.specs.Model.{RadioModel}
use Rattle.apd_world.specs.Outside.{device_of}
use Rattle.apd_world.specs.Proper.{IsProper, IsSafe}
use Rattle.apd_world.specs.SafelyMade.{AreMadeInTurn}
use Rattle.apd_world.specs.Ending.{HasGoneOn}
use Rattle.apd_world.specs.Starting.{rounds}
use Rattle.apd_world.specs.HandingOut.{hands}
use Rattle.apd_world.specs.WorldParts.{durable_of}
use Rattle.apd_world.specs.declared.step.Step.{Step}
use Rattle.apd_world.specs.declared.step.Told.{Told}
use Rattle.apd_world.specs.declared.world.World.{World}
use Rattle.apd_world.proofs.RunLemmas.{gone_by_flushing, gone_by_handing, gone_then, none_made}
use Rattle.apd_script.specs.Lines.{Said, Empty, Received, Tick, Command, Take, Call, Publish, Hand, Flush, Stop, Says, HaveNoStop}
use Rattle.apd_script.specs.Script.{AreFoundHonest, AreRun, confs_of, IsCarriedOut, IsFoundHonest, IsMade, IsMeant, IsPlaced, IsProperAt, IsRequested, IsRun, IsScriptRun, IsTried, SaysAndIsRun, Starts}
use Rattle.apd_script.specs.declared.script.runner.Runner.{Runner}

module _ {D R : Type 0} (disk : DiskModel D) (radio : RadioModel R) where
  abbrev Goes : Runner D R → Runner D R → Type 0
  Goes old new = HasGoneOn disk radio old.world new.world

  to_same : (old mid new : Runner D R) → new ≡ mid → Goes old mid → Goes old new
  to_same old mid new same goes = subst (λ (s : Runner D R). Goes old s) (sym same) goes

  -- ---- the steps of a line
  by_made : (step : Step) (old new : Runner D R) → IsMade disk radio step old new → Goes old new
  by_made step old new h = record { steps = step ∷ []; tolds = h.told ∷ []; made = h.makes.safely }

  by_tried : (step : Step) (old new : Runner D R) → IsTried disk radio step old new → Goes old new
  by_tried step old new h = subst (λ (s : Runner D R). Goes old s) (sym h.kept) (record { steps = step ∷ []; tolds = h.told ∷ []; made = h.makes.safely })

  by_requested : (said : Option (Result Happening QuietReason)) (old new : Runner D R) → IsRequested disk radio said old new → Goes old new
  by_requested said old new h = by_made h.request old new h.made

  by_placed : (what : Placing) (old new : Runner D R) → IsPlaced disk radio what old new → Goes old new
  by_placed (Asks query) old new h = by_made _ old new h
  by_placed (Does event) old new h = by_requested _ old new h

  pub by_start : (old new : Runner D R) → Starts disk radio old new → Goes old new
  by_start old new h =
      let confs = (durable_of old.world).core.confs in
      let handed = h.started.flushed.handed in
      record {
        steps = (h.started.first ++ rounds h.started.flushed.calls) ++ hands confs handed.counts;
        tolds = handed.tolds ++ map (λ a. a.1) h.answers;
        made = handed.made;
      }

  -- where no step is made, nothing is changed
  module _ (old new : Runner D R) (still : Goes old old) where
    by_meant : (tag : ℕ) (order : Order) (conf : Option Conf) → IsMeant disk radio tag order conf old new → Goes old new
    by_meant tag order None h = to_same old old new h still
    by_meant tag order (Some conf) h = by_placed _ old new h

    by_command : (tag : ℕ) (read : Result (Option (List ℕ) × Order) Refusal) → IsCarriedOut disk radio tag read old new → Goes old new
    by_command tag (Ok read) h = by_meant tag read.1 (conf_meant (confs_of old) read.0) h
    by_command tag (Err refusal) h = to_same old old new h still

    pub by_line : (n : ℕ) (what : Said) → what ≢ Stop → IsRun disk radio n what old new → Goes old new
    by_line n Empty none h = to_same old old new h still
    by_line n (Received interface frame) none h = by_requested _ old new h.requested
    by_line n (Tick m) none h = by_requested None (record old { moment = m }) new h
    by_line n (Command text) none h = by_command n (command_outcome text) h
    by_line n Take none h = by_tried _ old new h
    by_line n Call none h = by_tried _ old new h
    by_line n Publish none h = by_tried _ old new h
    by_line n Hand none h = gone_by_handing disk radio h.answers old.world new.world h.handed
    by_line n Flush none h = gone_by_flushing disk radio h.answers old.world new.world h.flushed
    by_line n Stop none h = absurd (none refl)

  -- ---- lines
  of_line : (n : ℕ) (text : List ℕ) (old new : Runner D R) → (Says text Stop → ⊥) → SaysAndIsRun disk radio n text old new → Goes old new
  of_line n text old new none one = one.safely (λ stop. none (subst (λ what. Says text what) stop one.says))

  -- behind some steps
  behind : (n : ℕ) (texts : List (List ℕ)) (base old new : Runner D R) → Goes base old → HaveNoStop texts → AreRun disk radio n texts old new → Goes base new
  behind n [] base old new goes none same = to_same base old new same goes
  behind n (text ∷ texts) base old new goes none (mid, one, rest) =
      behind (n + 1) texts base mid new
      (gone_then disk radio goes.steps goes.tolds base.world old.world mid.world goes.made (of_line n text old mid none.0 one)) none.1 rest

  -- of no line none is made
  pub by_lines : (n : ℕ) (texts : List (List ℕ)) (old new : Runner D R) → (texts ≡ [] → IsSafe disk (durable_of old.world) (durable_of old.world))
      → HaveNoStop texts → AreRun disk radio n texts old new → Goes old new
  by_lines n [] old new here none same = to_same old old new same (record { steps = []; tolds = []; made = none_made disk radio old.world (here refl) })
  by_lines n (text ∷ texts) old new here none (mid, one, rest) = behind (n + 1) texts old mid new (of_line n text old mid none.0 one) none.1 rest

  pub by_part : (n : ℕ) (texts : List (List ℕ)) (old started new : Runner D R) → Starts disk radio old started → HaveNoStop texts
      → AreRun disk radio n texts started new → Goes old new
  by_part n texts old started new starts none run = behind n texts old started new (by_start old started starts) none run

  -- ---- what stays proper
  abbrev At : Runner D R → Type 0
  At s = IsProperAt disk radio s

  line_proper : (n : ℕ) (what : Said) (old new : Runner D R) (h : IsRun disk radio n what old new) → (what ≢ Stop → Goes old new)
      → IsFoundHonest disk radio n what old new h → At old → At new
  line_proper n Stop old new h goes found p = h.starts.started.flushed.handed.made.proper (h.restarts.restarted.begun.proper found)
  line_proper n what old new h goes found p = (goes (λ stop. cc)).made.proper p

  lines_proper : (n : ℕ) (texts : List (List ℕ)) (old new : Runner D R) (run : AreRun disk radio n texts old new)
      → AreFoundHonest disk radio n texts old new run → At old → At new
  lines_proper n [] old new same found p = subst At (sym same) p
  lines_proper n (text ∷ texts) old new (mid, one, rest) found p =
      lines_proper (n + 1) texts mid new rest found.1 (line_proper n one.what old mid one.run one.safely found.0 p)

  -- ---- a device goes on
  steps_go_on : (steps : List Step) (tolds : List Told) (old new : World D R) → AreMadeInTurn disk radio steps tolds old new
      → IsProper disk (durable_of old) → disk.goes_on (device_of (durable_of old)) (device_of (durable_of new))
  steps_go_on [] [] old new h p =
      subst (λ (w : World D R). disk.goes_on (device_of (durable_of old)) (device_of (durable_of w))) (sym h.0) (disk.stays (device_of (durable_of old)))
  steps_go_on (step ∷ steps) (told ∷ tolds) old new h p =
      disk.goes_further (device_of (durable_of old)) (device_of (durable_of h.0)) (device_of (durable_of new))
      ((h.2.safe.inside p).goes_on) (steps_go_on steps tolds h.0 new h.3 (h.2.safe.proper p))
  steps_go_on steps tolds old new h p = absurd h

  abbrev On : Runner D R → Runner D R → Type 0
  On old new = disk.goes_on (device_of (durable_of old.world)) (device_of (durable_of new.world))

  on_further : (old mid new : Runner D R) → On old mid → On mid new → On old new
  on_further old mid new first next =
      disk.goes_further (device_of (durable_of old.world)) (device_of (durable_of mid.world)) (device_of (durable_of new.world)) first next

  by_goes : (old new : Runner D R) → Goes old new → At old → On old new
  by_goes old new goes p = steps_go_on goes.steps goes.tolds old.world new.world goes.made.in_turn p

  line_on : (n : ℕ) (what : Said) (old new : Runner D R) (h : IsRun disk radio n what old new) → (what ≢ Stop → Goes old new)
      → IsFoundHonest disk radio n what old new h → At old → On old new
  line_on n Stop old new h goes found p =
      on_further old h.mid new ((h.restarts.restarted.begun.any_moment found).goes_on)
      (by_goes h.mid new (by_start h.mid new h.starts) (h.restarts.restarted.begun.proper found))
  line_on n what old new h goes found p = by_goes old new (goes (λ stop. cc)) p

  lines_on : (n : ℕ) (texts : List (List ℕ)) (old new : Runner D R) (run : AreRun disk radio n texts old new)
      → AreFoundHonest disk radio n texts old new run → At old → On old new
  lines_on n [] old new same found p = subst (λ (s : Runner D R). On old s) (sym same) (disk.stays (device_of (durable_of old.world)))
  lines_on n (text ∷ texts) old new (mid, one, rest) found p =
      on_further old mid new (line_on n one.what old mid one.run one.safely found.0 p)
      (lines_on (n + 1) texts mid new rest found.1 (line_proper n one.what old mid one.run one.safely found.0 p))

  pub script_goes_on : (texts : List (List ℕ)) (w : World D R) (radios : List R) (last : Runner D R) (h : IsScriptRun disk radio texts w radios last)
      → AreFoundHonest disk radio 1 texts h.started last h.run → IsProper disk (durable_of w)
      → disk.goes_on (device_of (durable_of w)) (device_of (durable_of last.world))
  script_goes_on texts w radios last h found p =
      let begun : At h.first = subst (λ (v : World D R). IsProper disk (durable_of v)) (sym h.begun.world) p in
      subst (λ (v : World D R). disk.goes_on (device_of (durable_of v)) (device_of (durable_of last.world))) h.begun.world
      (on_further h.first h.started last (by_goes h.first h.started (by_start h.first h.started h.starts) begun)
      (lines_on 1 texts h.started last h.run found (h.starts.started.flushed.handed.made.proper begun)))

  pub stays_proper : (texts : List (List ℕ)) (w : World D R) (radios : List R) (last : Runner D R) (h : IsScriptRun disk radio texts w radios last)
      → AreFoundHonest disk radio 1 texts h.started last h.run → IsProper disk (durable_of w) → At last
  stays_proper texts w radios last h found p =
      let begun : At h.first = subst (λ (v : World D R). IsProper disk (durable_of v)) (sym h.begun.world) p in
      lines_proper 1 texts h.started last h.run found (h.starts.started.flushed.handed.made.proper begun)
