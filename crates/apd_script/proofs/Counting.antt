-- The failures of a script's device never fall, and have risen where a failed device is kept.
use Rattle.std.proofs.Common.{◌≡◌, ℕ, ◌+◌, ◌≤◌, List, [], ◌∷◌, Option, Some, None, Result, Ok, Err, zero, arith, sym, ap, subst, ◌∙◌, ⊎_elim}
use Rattle.std.specs.Option.{option_or}
use Rattle.std.specs.Prelude.{◌≢◌}
use Rattle.apd_base.specs.Failures.{HasRisen}
use Rattle.apd_conf.specs.Confs.{conf_meant}
use Rattle.apd_conf.specs.declared.conf.Conf.{Conf}
use Rattle.apd_disk.specs.Disk.{DiskModel}
use Rattle.apd_ctrl.specs.Placing.{Placing, Asks, Does}
use Rattle.apd_ctrl.specs.Reading.{outcome as command_outcome}
use Rattle.apd_ctrl.specs.declared.command.Command.{Command as Order}
use Rattle.apd_ctrl.specs.declared.parser.Refusal.{Refusal}
use Rattle.apd_radio.specs.Model.{RadioModel}
use Rattle.apd_store.specs.declared.fault.StoreFault.{StoreFault}
use Rattle.apd_store.specs.declared.fault.StoreFault.TheVariants as store_fault
use Rattle.apd_world.specs.Ending.{HasGoneOn}
use Rattle.apd_world.specs.Telling.{Tells}
use Rattle.apd_world.specs.WorldParts.{durable_of}
use Rattle.apd_world.specs.WorldRun.{IsWorldStep}
use Rattle.apd_world.specs.declared.step.Step.{Step}
use Rattle.apd_world.specs.declared.step.Step.TheVariants as step
use Rattle.apd_world.specs.declared.step.Told.{Told}
use Rattle.apd_world.specs.declared.step.Told.TheVariants.{Called, Loaded}
use Rattle.apd_world.specs.declared.world.World.{World}
use Rattle.apd_world.proofs.RunLemmas.{failures, risen_since}
use Rattle.apd_script.specs.Lines.{Said, Empty, Received, Tick, Command, Take, Call, Publish, Hand, Flush, Stop}
use Rattle.apd_script.specs.Refused.{refusal_of}
use Rattle.apd_script.specs.Script.{AreRun, confs_of, IsCarriedOut, IsMade, IsMeant, IsPlaced, IsRun, IsScriptRun, IsTried, Starts}
use Rattle.apd_script.specs.declared.script.runner.Runner.{Runner}
use Rattle.apd_script.proofs.Parts.{by_start}

module _ {D R : Type 0} (disk : DiskModel D) (radio : RadioModel R) where
  abbrev count_of : World D R → ℕ
  count_of w = failures disk radio w

  pub record Counts (base : ℕ) (s : Runner D R) : Type 0 where
    pub later : base ≤ count_of s.world
    pub risen : s.refusal ≡ Some store_fault.Device → HasRisen base (count_of s.world)

  -- ---- what is kept
  by_made : (made : Step) (old new : Runner D R) → IsMade disk radio made old new → new.refusal ≡ old.refusal
  by_made made old new h = ap (λ (s : Runner D R). s.refusal) h.makes.only

  by_placed : (what : Placing) (old new : Runner D R) → IsPlaced disk radio what old new → new.refusal ≡ old.refusal
  by_placed (Asks query) old new h = by_made _ old new h
  by_placed (Does event) old new h = by_made h.request old new h.made

  by_meant : (tag : ℕ) (order : Order) (conf : Option Conf) (old new : Runner D R) → IsMeant disk radio tag order conf old new → new.refusal ≡ old.refusal
  by_meant tag order None old new h = ap (λ (s : Runner D R). s.refusal) h
  by_meant tag order (Some conf) old new h = by_placed _ old new h

  by_command : (tag : ℕ) (read : Result (Option (List ℕ) × Order) Refusal) (old new : Runner D R) → IsCarriedOut disk radio tag read old new → new.refusal ≡ old.refusal
  by_command tag (Ok read) old new h = by_meant tag read.1 (conf_meant (confs_of old) read.0) old new h
  by_command tag (Err refusal) old new h = ap (λ (s : Runner D R). s.refusal) h

  -- ---- a step
  -- no load tells that the device failed
  not_loaded : (told : Told) (a b : World D R) → IsWorldStep radio step.Take told a b → told ≡ Loaded (Err store_fault.Device) → ⊥
  not_loaded told a b h is =
      let tells : Tells step.Take (Loaded (Err store_fault.Device)) (durable_of a) (durable_of b) =
      subst (λ (t : Told). Tells step.Take t (durable_of a) (durable_of b)) (sym h.joins.0 ∙ is) h.durable.tells in
      ⊎_elim (λ no. cc) (λ others. ⊎_elim (λ no. cc) (λ rest. ⊎_elim (λ no. cc) (λ last. ⊎_elim (λ no. cc) (λ no. cc) last) rest) others) tells.1.load.tells.few

  not_called : (told : Told) (a b : World D R) → IsWorldStep radio step.Call told a b → told ≡ Loaded (Err store_fault.Device) → ⊥
  not_called told a b h is = subst (λ (t : Told). Tells step.Call t (durable_of a) (durable_of b)) (sym h.joins.0 ∙ is) h.durable.tells

  not_published : (told : Told) (a b : World D R) → IsWorldStep radio step.Publish told a b → told ≡ Loaded (Err store_fault.Device) → ⊥
  not_published told a b h is = subst (λ (t : Told). Tells step.Publish t (durable_of a) (durable_of b)) (sym h.joins.0 ∙ is) h.durable.tells

  -- a failed device is told by a call alone
  called : (told : Told) → (told ≡ Loaded (Err store_fault.Device) → ⊥) → refusal_of told ≡ Some store_fault.Device → told ≡ Called (Err store_fault.Device)
  called (Loaded (Err why)) none is = absurd (none (let same : why ≡ store_fault.Device = cc in ap (λ (f : StoreFault). Loaded (Err f)) same))
  called (Called (Err why)) none is = (let same : why ≡ store_fault.Device = cc in ap (λ (f : StoreFault). Called (Err f)) same)
  called told none is = (let no : ⊥ = cc in absurd no)

  risen_by : (base : ℕ) (old mid : Runner D R) (told : Told) (was : Option StoreFault) → base ≤ count_of old.world → count_of old.world ≤ count_of mid.world
      → (was ≡ Some store_fault.Device → HasRisen base (count_of old.world))
      → (refusal_of told ≡ Some store_fault.Device → HasRisen (count_of old.world) (count_of mid.world))
      → option_or was (refusal_of told) ≡ Some store_fault.Device → HasRisen base (count_of mid.world)
  risen_by base old mid told None before later kept now is = risen_since base (count_of old.world) (count_of mid.world) (now is) before later
  risen_by base old mid told (Some why) before later kept now is = (λ below. (let more = kept is below in omega (arith, more, later)))

  tried : (base : ℕ) (made : Step) (old new : Runner D R)
      → ((told : Told) (a b : World D R) → IsWorldStep radio made told a b → told ≡ Loaded (Err store_fault.Device) → ⊥)
      → IsTried disk radio made old new → Counts base old → Counts base new
  tried base made old new none h was =
      let safely = h.makes.safely in
      let turn = safely.in_turn in
      let not = none h.told old.world turn.0 turn.1 in
      let more : refusal_of h.told ≡ Some store_fault.Device → HasRisen (count_of old.world) (count_of h.mid.world) =
      (λ is. safely.risen (zero, omega arith, called h.told not is)) in
      let before = was.later in
      let later = safely.count in
      let there : Counts base (record h.mid { refusal = option_or old.refusal (refusal_of h.told) }) = record {
        later = omega (arith, before, later);
        risen = risen_by base old h.mid h.told old.refusal before later was.risen more;
      } in
      subst (λ (s : Runner D R). Counts base s) (sym h.kept) there

  -- ---- a line
  goes_on : (base : ℕ) (old new : Runner D R) → HasGoneOn disk radio old.world new.world → new.refusal ≡ old.refusal → Counts base old → Counts base new
  goes_on base old new goes same was =
      let before = was.later in
      let later = goes.made.count in
      record {
        later = omega (arith, before, later);
        risen = λ is. λ below. (let more = was.risen (sym same ∙ is) below in omega (arith, more, later));
      }

  starts : (base : ℕ) (old new : Runner D R) → Starts disk radio old new → Counts base old → Counts base new
  starts base old new h was = goes_on base old new (by_start disk radio old new h) (ap (λ (s : Runner D R). s.refusal) h.only) was

  line : (base n : ℕ) (what : Said) (old new : Runner D R) → IsRun disk radio n what old new → (what ≢ Stop → HasGoneOn disk radio old.world new.world) → Counts base old → Counts base new
  line base n Empty old new h goes was = subst (λ (s : Runner D R). Counts base s) (sym h) was
  line base n (Received interface frame) old new h goes was = goes_on base old new (goes (λ is. cc)) (by_made h.requested.request old new h.requested.made) was
  line base n (Tick m) old new h goes was = goes_on base old new (goes (λ is. cc)) (by_made h.request (record old { moment = m }) new h.made) was
  line base n (Command text) old new h goes was = goes_on base old new (goes (λ is. cc)) (by_command n (command_outcome text) old new h) was
  line base n Take old new h goes was = tried base step.Take old new not_loaded h was
  line base n Call old new h goes was = tried base step.Call old new not_called h was
  line base n Publish old new h goes was = tried base step.Publish old new not_published h was
  line base n Hand old new h goes was = goes_on base old new (goes (λ is. cc)) (ap (λ (s : Runner D R). s.refusal) h.only) was
  line base n Flush old new h goes was = goes_on base old new (goes (λ is. cc)) (ap (λ (s : Runner D R). s.refusal) h.only) was
  line base n Stop old new h goes was =
      let none : h.mid.refusal ≡ None = ap (λ (s : Runner D R). s.refusal) h.restarts.only in
      let here : Counts base h.mid = record {
        later = subst (λ (k : ℕ). base ≤ k) (sym h.restarts.restarted.begun.count) was.later;
        risen = λ is. absurd (let no : None ≡ Some store_fault.Device = sym none ∙ is in cc);
      } in
      starts base h.mid new h.starts here

  lines : (base n : ℕ) (texts : List (List ℕ)) (old new : Runner D R) → AreRun disk radio n texts old new → Counts base old → Counts base new
  lines base n [] old new same was = subst (λ (s : Runner D R). Counts base s) (sym same) was
  lines base n (text ∷ texts) old new (mid, one, rest) was = lines base (n + 1) texts mid new rest (line base n one.what old mid one.run one.safely was)

  -- a script
  pub counted : (texts : List (List ℕ)) (w : World D R) (radios : List R) (last : Runner D R) → IsScriptRun disk radio texts w radios last → Counts (count_of w) last
  counted texts w radios last h =
      let first : Counts (count_of w) h.first = record {
        later = subst (λ (v : World D R). count_of w ≤ count_of v) (sym h.begun.world) (omega arith);
        risen = λ is. absurd (let no : None ≡ Some store_fault.Device = sym h.begun.refusal ∙ is in cc);
      } in
      lines (count_of w) 1 texts h.started last h.run (starts (count_of w) h.first h.started h.starts first)
