use Rattle.std.proofs.Common.{◌≡◌, refl, ap}
use Rattle.apd_world.proofs.Words.{Ask, DurableCore, NoMemory, device_of}
use Rattle.apd_world.proofs.Goings.{goes_unchanged}
use Rattle.apd_world.proofs.DurableSteps.{safe_unchanged}
use Rattle.apd_world.proofs.StepLemmas.{ask_step, step_unchanged}
use Rattle.apd_world.proofs.durable_core.DurableCore.ask.Goals as goal

pub returns-in-Ok : goal.returns-in-Ok
returns-in-Ok g c =
    let old = c.args.self.now in
    let new : DurableCore _ = record old { core = c.ask.new.self } in
    let t = c.in-Ok.ensures in
    let same : new ≡ old = λ i. record old { core = t.1.1 i } in
    record {
      step = ask_step old new c.args.query c.in-Ok.answer (record { answer_is = t.1.0; only = same });
      safe = safe_unchanged g.D.Disk.model old new same c.stops.ensures;
      device = ap device_of same;
    }

pub returns-in-Err : goal.returns-in-Err
returns-in-Err g c =
    let old = c.args.self.now in
    let new : DurableCore _ = record old { core = c.ask.new.self } in
    let same : new ≡ old = λ i. record old { core = c.in-Err.ensures.1 i } in
    record {
      step = step_unchanged (Ask c.args.query) NoMemory old new same same (goes_unchanged old.core) refl;
      safe = safe_unchanged g.D.Disk.model old new same c.stops.ensures;
      device = ap device_of same;
    }
