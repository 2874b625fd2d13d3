use Rattle.std.proofs.Common.{◌≡◌, refl, ap}
use Rattle.apd_world.proofs.Words.{Accept, DurableCore, NoMemory, device_of}
use Rattle.apd_world.proofs.Goings.{goes_unchanged}
use Rattle.apd_world.proofs.DurableSteps.{safe_unchanged}
use Rattle.apd_world.proofs.FromSteps.{accepts}
use Rattle.apd_world.proofs.StepLemmas.{step_unchanged}
use Rattle.apd_world.proofs.durable_core.DurableCore.accept.Goals as goal

pub returns-in-Ok : goal.returns-in-Ok
returns-in-Ok g c =
    let old = c.args.self.now in
    let both = accepts g.D.Disk.model old c.submit.new.self c.stops.ensures c.args.input c.args.moment c.reception.result c.in-Ok.answer c.reception.ensures c.in-Ok.ensures in
    record { step = both.0; safe = both.1; device = refl }

pub returns-in-Err : goal.returns-in-Err
returns-in-Err g c =
    let old = c.args.self.now in
    let new : DurableCore _ = record old { core = c.submit.new.self } in
    let t = c.in-Err.ensures in
    let same : new ≡ old = λ i. record old { core = t.1.1 i } in
    record {
      step = step_unchanged (Accept c.args.input c.args.moment) NoMemory old new same (t.1.0, same) (goes_unchanged old.core) refl;
      safe = safe_unchanged g.D.Disk.model old new same c.stops.ensures;
      device = ap device_of same;
    }
