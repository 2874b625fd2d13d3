-- What the lines of a script do, from what the steps do that they ask for.
use Rattle.std.proofs.Common.{◌≡◌, ℕ, List, [], Option, Some, None, Result, Ok, Err, IfOk, IfErr, ap, refl, subst, sym, ◌∙◌}
use Rattle.std.specs.Option.{option_map, option_or}
use Rattle.std.specs.Prelude.{length, OnErr, OnOk}
use Rattle.apd_conf.specs.declared.conf.Conf.{Conf}
use Rattle.apd_conf.specs.Confs.{conf_meant, conf_named}
use Rattle.apd_disk.specs.Disk.{DiskModel}
use Rattle.apd_core.specs.Requests.{frame_happening}
use Rattle.apd_core.specs.declared.input.QuietReason.{QuietReason}
use Rattle.apd_ctrl.proofs.OutcomeLemmas.{only}
use Rattle.apd_ctrl.specs.Placing.{Becomes, Placing, command_placing, placed_at, IsPlaced as IsPlacedCommand}
use Rattle.apd_ctrl.specs.Reading.{outcome as command_outcome}
use Rattle.apd_ctrl.specs.declared.command.Command.{Command as Order}
use Rattle.apd_ctrl.specs.declared.parser.Refusal.{Refusal}
use Rattle.apd_frame.specs.Outcome.{outcome}
use Rattle.apd_event.specs.Happening.{Happening}
use Rattle.apd_radio.specs.Model.{RadioModel}
use Rattle.apd_store.specs.declared.fault.StoreFault.{StoreFault}
use Rattle.apd_world.specs.Ending.{HasEnded, HasFailedCore, HasMetNoRefusal}
use Rattle.apd_world.specs.Proper.{IsSafe, IsWhole}
use Rattle.apd_world.specs.WorldParts.{durable_of}
use Rattle.apd_world.specs.declared.step.Step.{Step}
use Rattle.apd_world.specs.declared.step.Told.{Told}
use Rattle.apd_world.proofs.RunLemmas.{none_made}
use Rattle.apd_world.specs.declared.fault.WorldFault.{WorldFault}
use Rattle.apd_world.specs.declared.fault.WorldFault.TheVariants as world_fault
use Rattle.apd_world.specs.declared.world.World.{World}
use Rattle.apd_script.specs.Faults.{IsDoneToPrint, IsEndedBy, IsLineFault, IsNoRefusal, IsRefused, IsSaidFault, IsShort, IsStartFault, IsUndone, IsUnwritten}
use Rattle.apd_script.specs.Lines.{Said, Says, IsNotPossible}
use Rattle.apd_script.specs.Refused.{refusal_of}
use Rattle.apd_script.specs.Script.{acceptance_of, confs_of, found_by, is_up_at, IsCarriedOut, IsMade, IsMeant, IsPlaced, IsReceived, IsRequested, IsRun, IsTried, Makes, SaysAndIsRun, Starts}
use Rattle.apd_script.specs.declared.script.fault.ScriptFault.{ScriptFault}
use Rattle.apd_script.specs.declared.script.fault.ScriptFault.TheVariants as fault
use Rattle.apd_script.specs.declared.script.runner.Runner.{Runner}
use Rattle.apd_script.proofs.Parts.{by_line}

-- ---- why it was not done, or not printed
-- it was done
pub unprinted : {A : Type 0} (This : Type 0) (refused : WorldFault → Type 0) (r : Result A ScriptFault) → This → IfErr r IsUnwritten → IfErr r (IsUndone This refused)
unprinted This refused (Ok x) this h = tt
unprinted This refused (Err fault.Writer) this h = this
unprinted This refused (Err fault.NoMemory) this h = tt
unprinted This refused (Err why) this h = absurd h

-- what is not done is not done by another name
pub undone_as : {A : Type 0} (This That : Type 0) (refused also : WorldFault → Type 0) (r : Result A ScriptFault) → (This → That) → ((why : WorldFault) → refused why → also why)
    → IfErr r (IsUndone This refused) → IfErr r (IsUndone That also)
undone_as This That refused also (Ok x) that so h = tt
undone_as This That refused also (Err fault.Writer) that so h = that h
undone_as This That refused also (Err (fault.World why)) that so h = so why h
undone_as This That refused also (Err fault.NoMemory) that so h = tt
undone_as This That refused also (Err fault.Reader) that so h = absurd h
undone_as This That refused also (Err (fault.BadLine n)) that so h = absurd h

pub still_undone : {A : Type 0} (This That : Type 0) (r : Result A ScriptFault) → (This → That) → IfErr r (IsUndone This IsNoRefusal) → IfErr r (IsUndone That IsNoRefusal)
still_undone This That r that h = undone_as This That IsNoRefusal IsNoRefusal r that (λ why none. none) h

module _ {D R : Type 0} (disk : DiskModel D) (radio : RadioModel R) where
  -- what a call of the world ended with
  pub short : {A : Type 0} (r : Result A WorldFault) (old new : World D R) → OnErr r (HasMetNoRefusal disk radio old new) → IfErr r (λ why. why ≡ world_fault.NoMemory)
      → IfErr r (λ why. IsShort disk radio why old new)
  short (Ok x) old new gone memory = tt
  short (Err why) old new gone memory = record { memory = memory; gone = gone }

  pub ended : {A : Type 0} (r : Result A WorldFault) (old new : World D R) → IfErr r (λ why. HasEnded disk radio why old new)
      → (IsWhole disk (durable_of old) → IfErr r (λ why. HasFailedCore why new)) → IfErr r (λ why. IsEndedBy disk radio why old new)
  ended (Ok x) old new end failed = tt
  ended (Err why) old new end failed = record { ended = end; core = failed }

  -- what a line says
  pub unsaid : {A : Type 0} (This : Type 0) (refused : WorldFault → Type 0) (n : ℕ) (what : Said) (s : Runner D R) (r : Result A ScriptFault) → (This → IsDoneToPrint disk radio n what s)
      → ((why : WorldFault) → refused why → IsRefused disk radio what why s) → IfErr r (IsUndone This refused) → IfErr r (IsSaidFault disk radio n what s)
  unsaid This refused n what s (Ok x) done so h = tt
  unsaid This refused n what s (Err fault.Writer) done so h = done h
  unsaid This refused n what s (Err (fault.World why)) done so h = so why h
  unsaid This refused n what s (Err fault.NoMemory) done so h = tt
  unsaid This refused n what s (Err fault.Reader) done so h = absurd h
  unsaid This refused n what s (Err (fault.BadLine k)) done so h = absurd h

  pub unsaid_alone : {A : Type 0} (This : Type 0) (n : ℕ) (what : Said) (s : Runner D R) (r : Result A ScriptFault) → (This → IsDoneToPrint disk radio n what s)
      → IfErr r (IsUndone This IsNoRefusal) → IfErr r (IsSaidFault disk radio n what s)
  unsaid_alone This n what s r done h = unsaid This IsNoRefusal n what s r done (λ why none. absurd none) h

  -- what can't be carried out is bad, since a text says one thing alone
  said_fault : (one : (text : List ℕ) (a b : Said) → Says text a → Says text b → a ≡ b) (n : ℕ) (text : List ℕ) (what : Said) (s : Runner D R) (why : ScriptFault)
      → Says text what → IsSaidFault disk radio n what s why → IsLineFault disk radio n text s why
  said_fault one n text what s (fault.BadLine k) says (same, impossible) = (same, λ other says_other. subst (λ w. IsNotPossible (confs_of s) (length s.spares.items) w) (one text what other says says_other) impossible)
  said_fault one n text what s fault.NoMemory says h = tt
  said_fault one n text what s why says h = (what, says, h)

  pub line_fault : {A : Type 0} (one : (text : List ℕ) (a b : Said) → Says text a → Says text b → a ≡ b) (r : Result A ScriptFault) (n : ℕ) (text : List ℕ) (what : Said) (s : Runner D R)
      → Says text what → IfErr r (IsSaidFault disk radio n what s) → IfErr r (IsLineFault disk radio n text s)
  line_fault one (Ok x) n text what s says h = tt
  line_fault one (Err why) n text what s says h = said_fault one n text what s why says h

  -- what the interfaces' start was kept from
  pub kept_unstarted : (done : Result (Unit {0}) ScriptFault) (r : Result (Runner D R) ScriptFault) (s mid : Runner D R) → OnOk done (r ≡ Ok mid) → IfErr done (λ why. r ≡ Err why)
      → IfErr done (IsUndone (Starts disk radio s mid) (λ why. IsEndedBy disk radio why s.world mid.world)) → IfErr r (IsStartFault disk radio s)
  kept_unstarted (Ok u) r s mid is none h = subst (λ x. IfErr x (IsStartFault disk radio s)) (sym is) tt
  kept_unstarted (Err fault.Writer) r s mid none is h = subst (λ x. IfErr x (IsStartFault disk radio s)) (sym is) (mid, h)
  kept_unstarted (Err (fault.World why)) r s mid none is h = subst (λ x. IfErr x (IsStartFault disk radio s)) (sym is) (mid.world, h)
  kept_unstarted (Err fault.NoMemory) r s mid none is h = subst (λ x. IfErr x (IsStartFault disk radio s)) (sym is) tt
  kept_unstarted (Err fault.Reader) r s mid none is h = absurd h
  kept_unstarted (Err (fault.BadLine n)) r s mid none is h = absurd h

-- what holds is so whatever else went well
pub on_ok : {A E : Type 0} (P : Type 0) (r : Result A E) → P → OnOk r P
on_ok P (Ok x) p = p
on_ok P (Err why) p = tt

-- what went well did what follows from it
pub then_ok : {A E : Type 0} (P Q : Type 0) (r : Result A E) → (P → Q) → OnOk r P → OnOk r Q
then_ok P Q (Ok x) follows p = follows p
then_ok P Q (Err why) follows p = tt

-- what is kept where what was done on it went well
pub kept_ok : {U S E : Type 0} (P : S → Type 0) (done : Result U E) (r : Result S E) (s : S) → OnOk done (r ≡ Ok s) → IfErr done (λ why. r ≡ Err why) → OnOk done (P s) → IfOk r P
kept_ok P (Ok u) r s is none p = subst (λ x. IfOk x P) (sym is) p
kept_ok P (Err why) r s none is p = subst (λ x. IfOk x P) (sym is) tt

pub kept_err : {U S E : Type 0} (P : E → Type 0) (done : Result U E) (r : Result S E) (s : S) → OnOk done (r ≡ Ok s) → IfErr done (λ why. r ≡ Err why) → IfErr done P → IfErr r P
kept_err P (Ok u) r s is none p = subst (λ x. IfErr x P) (sym is) tt
kept_err P (Err why) r s none is p = subst (λ x. IfErr x P) (sym is) p

module _ {D R : Type 0} (disk : DiskModel D) (radio : RadioModel R) where
  -- a step is tried
  pub tried : (made : Step) (told : Told) (old mid : Runner D R) (kept refusal : Option StoreFault) → Makes disk radio made told old mid → kept ≡ option_or mid.refusal refusal
      → refusal ≡ refusal_of told → IsTried disk radio made old (record mid { refusal = kept })
  tried made told old mid kept refusal makes is known = record {
    told = told;
    mid = mid;
    makes = makes;
    kept = ap (λ (r : Option StoreFault). record mid { refusal = r }) (is ∙ ap (λ r. option_or mid.refusal r) known ∙ ap (λ (s : Runner D R). option_or s.refusal (refusal_of told)) makes.only);
  }

  -- a frame is received
  pub received_ok : {A : Type 0} (r : Result A ScriptFault) (interface frame : List ℕ) (conf : Conf) (request : Step) (old new : Runner D R)
      → conf_named (confs_of old) interface ≡ Some conf → acceptance_of request ≡ Some (Some (frame_happening conf.bssid (outcome frame conf.bssid)), old.moment)
      → OnOk r (IsMade disk radio request old new) → OnOk r (IsReceived disk radio interface frame old new)
  received_ok (Ok x) interface frame conf request old new configured asks made = record { conf = conf; configured = configured; requested = record { request = request; asks = asks; made = made } }
  received_ok (Err why) interface frame conf request old new configured asks made = tt

  -- something is accepted, or the moment is
  pub requested_ok : {A : Type 0} (r : Result A ScriptFault) (said : Option (Result Happening QuietReason)) (request : Step) (old new : Runner D R) → acceptance_of request ≡ Some (said, old.moment)
      → OnOk r (IsMade disk radio request old new) → OnOk r (IsRequested disk radio said old new)
  requested_ok (Ok x) said request old new asks made = record { request = request; asks = asks; made = made }
  requested_ok (Err why) said request old new asks made = tt

  pub placed_ok : {A : Type 0} (r : Result A ScriptFault) (p q : Placing) (old new : Runner D R) → p ≡ q
      → OnOk r (IsPlaced disk radio q old new) → OnOk r (IsPlaced disk radio p old new)
  placed_ok r p q old new same h = subst (λ x. OnOk r (IsPlaced disk radio x old new)) (sym same) h

  -- at the interface that is meant, or at none
  meant_placed : (order : Order) (tag : ℕ) (meant : Option Conf) (p : Placing) (old new : Runner D R) → Ok p ≡ placed_at order tag (option_map (λ conf. (conf.bssid, is_up_at old conf)) meant)
      → IsPlaced disk radio p old new → IsMeant disk radio tag order meant old new
  meant_placed order tag None p old new is h = cc
  meant_placed order tag (Some conf) p old new is h =
      let same : p ≡ command_placing order conf.bssid (is_up_at old conf) tag = cc in
      subst (λ q. IsPlaced disk radio q old new) same h

  none_meant : (order : Order) (tag : ℕ) (meant : Option Conf) (why : Refusal) (old : Runner D R) → Err why ≡ placed_at order tag (option_map (λ conf. (conf.bssid, is_up_at old conf)) meant)
      → IsMeant disk radio tag order meant old old
  none_meant order tag None why old is = refl
  none_meant order tag (Some conf) why old is = cc

  -- what became of a text as a command is carried out, or it makes no step
  pub carried_out : (tag : ℕ) (text : List ℕ) (p : Placing) (old new : Runner D R) → IsPlacedCommand (λ name found. found ≡ found_by old name) tag text (Ok p) → IsPlaced disk radio p old new
      → IsCarriedOut disk radio tag (command_outcome text) old new
  carried_out tag text p old new placed h = subst (λ o. IsCarriedOut disk radio tag o old new) (only text placed.outcome placed.is) (go placed.outcome placed.becomes)
    where
      go : (x : Result (Option (List ℕ) × Order) Refusal) → Becomes (λ name found. found ≡ found_by old name) tag x (Ok p) → IsCarriedOut disk radio tag x old new
      go (Err why) is = cc
      go (Ok read) (found, is_found, is) = meant_placed read.1 tag (conf_meant (confs_of old) read.0) p old new (is ∙ ap (placed_at read.1 tag) is_found) h

  pub not_carried_out : (tag : ℕ) (text : List ℕ) (why : Refusal) (old : Runner D R) → IsPlacedCommand (λ name found. found ≡ found_by old name) tag text (Err why)
      → IsCarriedOut disk radio tag (command_outcome text) old old
  not_carried_out tag text why old placed = subst (λ o. IsCarriedOut disk radio tag o old old) (only text placed.outcome placed.is) (go placed.outcome placed.becomes)
    where
      go : (x : Result (Option (List ℕ) × Order) Refusal) → Becomes (λ name found. found ≡ found_by old name) tag x (Err why) → IsCarriedOut disk radio tag x old old
      go (Err other) is = refl
      go (Ok read) (found, is_found, is) = none_meant read.1 tag (conf_meant (confs_of old) read.0) why old (is ∙ ap (placed_at read.1 tag) is_found)

  -- a text says what is run
  pub says_ok : (r : Result (Runner D R) ScriptFault) (n : ℕ) (text : List ℕ) (what : Said) (old : Runner D R) → Says text what
      → IsSafe disk (durable_of old.world) (durable_of old.world)
      → IfOk r (λ new. IsRun disk radio n what old new) → IfOk r (λ new. SaysAndIsRun disk radio n text old new)
  says_ok (Ok new) n text what old says still run = record {
    what = what;
    says = says;
    run = run;
    safely = λ none. by_line disk radio old new (record { steps = []; tolds = []; made = none_made disk radio old.world still }) n what none run;
  }
  says_ok (Err why) n text what old says still run = tt
