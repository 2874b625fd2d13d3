use Rattle.std.proofs.Common.{Option, Some, None, Result, subst}
use Rattle.apd_steps.specs.Calls.{exactly}
use Rattle.apd_steps.specs.Run as steps
use Rattle.apd_world.proofs.Words.{StoreFault}
use Rattle.apd_world.proofs.FromSteps.{calls}
use Rattle.apd_world.proofs.durable_core.DurableCore.call.Goals as goal

pub returns-in-Some : goal.returns-in-Some
returns-in-Some g c =
    let disk = g.D.Disk.model in
    let old = c.args.self.now in
    let new = record old { core = c.call.new.core; committer = c.call.new.committer } in
    let h = subst (λ (r : Option (Result (Unit {0}) StoreFault)). steps.IsStep disk exactly (steps.Call r) old.core new.core old.committer new.committer) c.in-Some.is c.call.ensures in
    let both = calls disk old new (Some c.in-Some.result) h in
    record { step = both.0; made = both.1 }

pub returns-in-None : goal.returns-in-None
returns-in-None g c =
    let disk = g.D.Disk.model in
    let old = c.args.self.now in
    let new = record old { core = c.call.new.core; committer = c.call.new.committer } in
    let h = subst (λ (r : Option (Result (Unit {0}) StoreFault)). steps.IsStep disk exactly (steps.Call r) old.core new.core old.committer new.committer) c.in-None.is c.call.ensures in
    let both = calls disk old new None h in
    record { step = both.0; made = both.1 }
