-- A script on the store of a device, from what its parts do.
use Rattle.std.proofs.Common.{◌≡◌, ℕ, ◌*◌, List, length, Option, Result, Ok, Err, IfOk, IfErr, inl, inr}
use Rattle.apd_conf.specs.declared.conf.Conf.{Conf}
use Rattle.apd_disk.specs.Disk.{DiskModel}
use Rattle.apd_radio.specs.Model.{RadioModel}
use Rattle.apd_world.specs.declared.world.World.{World}
use Rattle.apd_script.specs.Faults.{IsBeginFault, IsFault, IsFaultOn}
use Rattle.apd_script.specs.Script.{Ends, IsBegunFrom, IsRunOn}
use Rattle.apd_script.specs.declared.script.fault.ScriptFault.{ScriptFault}
use Rattle.apd_script.specs.declared.script.fault.ScriptFault.TheVariants as fault

module _ {D R : Type 0} (disk : DiskModel D) (radio : RadioModel R) (stops : ℕ) (device : D) (confs : List Conf) (known : Option (List ℕ)) where
  module _ (each : Type 0) (first : World D R) (radios : List R) (begun : each → IsBegunFrom disk radio (record { 0 = 0 }) device confs first) where
    pub runs_on : (r : Result (World D R) ScriptFault) → IfOk r (λ new. Ends disk radio known radios first new)
        → IfOk r (λ new. each → length radios ≡ stops * length confs → IsRunOn disk radio stops device confs known new)
    runs_on (Ok new) ends = λ all enough. record { first = first; begun = begun all; radios = radios; enough = enough; ends = ends }
    runs_on (Err why) ends = tt

    fails : (why : ScriptFault) → IsFault disk radio known radios first why → each → length radios ≡ stops * length confs
        → IsFaultOn disk radio stops device confs known why
    fails (fault.World why) is all enough = inr (record { first = first; begun = begun all; radios = radios; enough = enough; fault = is })
    fails fault.NoMemory is all enough = tt
    fails why is all enough = record { first = first; begun = begun all; radios = radios; enough = enough; fault = is }

    pub fails_on : (r : Result (World D R) ScriptFault) → IfErr r (IsFault disk radio known radios first)
        → IfErr r (λ why. each → length radios ≡ stops * length confs → IsFaultOn disk radio stops device confs known why)
    fails_on (Ok new) is = tt
    fails_on (Err why) is = fails why is

  -- no world is begun
  pub unbegun : (why : ScriptFault) → IsBeginFault disk radio device confs why → IsFaultOn disk radio stops device confs known why
  unbegun (fault.World why) h = inl h
  unbegun why h = absurd h
