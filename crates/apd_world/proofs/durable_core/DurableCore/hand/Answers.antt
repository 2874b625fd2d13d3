use Rattle.std.proofs.Common.{◌≡◌, refl}
use Rattle.apd_world.proofs.Words.{DurableCore, Hand, NoMemory}
use Rattle.apd_world.proofs.Goings.{goes_unchanged}
use Rattle.apd_world.proofs.DurableSteps.{made_beside, made_unchanged}
use Rattle.apd_world.proofs.FromSteps.{gives_out}
use Rattle.apd_world.proofs.StepLemmas.{lacking_not_called, step_unchanged}
use Rattle.apd_world.proofs.durable_core.DurableCore.hand.Goals as goal

pub returns-in-Ok : goal.returns-in-Ok
returns-in-Ok g c =
    let old = c.args.self.now in
    let new = record old { core = c.collect.new.self } in
    let both = gives_out g.D.Disk.model old c.collect.new.self c.stops.ensures c.args.to c.in-Ok.outs.items c.from_vec.result c.from_vec.ensures c.in-Ok.ensures in
    record { ok = both.0; err = tt; lacks = tt; made = made_beside g.D.Disk.model NoMemory old new refl (lacking_not_called _) both.1 }

pub returns-in-Err : goal.returns-in-Err
returns-in-Err g c =
    let old = c.args.self.now in
    let new : DurableCore _ = record old { core = c.collect.new.self } in
    let t = c.in-Err.ensures in
    let same : new ≡ old = λ i. record old { core = t.1.1 i } in
    record {
      ok = tt;
      err = step_unchanged (Hand c.args.to) NoMemory old new same (t.1.0, same) (goes_unchanged old.core) refl;
      lacks = (t.1.0, same);
      made = made_unchanged g.D.Disk.model NoMemory old new same (lacking_not_called _) c.stops.ensures;
    }
