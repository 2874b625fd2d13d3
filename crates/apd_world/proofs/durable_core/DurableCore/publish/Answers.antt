use Rattle.std.proofs.Common.{Option, Some, None, Result, subst}
use Rattle.apd_core.specs.declared.publish_fault.PublishFault.{PublishFault}
use Rattle.apd_steps.specs.Calls.{exactly}
use Rattle.apd_steps.specs.Run as steps
use Rattle.apd_world.proofs.FromSteps.{publishes, same_published}
use Rattle.apd_world.proofs.durable_core.DurableCore.publish.Goals as goal

pub returns-in-Some : goal.returns-in-Some
returns-in-Some g c =
    let disk = g.D.Disk.model in
    let old = c.args.self.now in
    let new = record old { core = c.publish.new.core; committer = c.publish.new.committer } in
    let t = c.publish.ensures in
    let h = subst (λ (r : Option (Result (Unit {0}) PublishFault)). steps.IsStep disk exactly (steps.Publish t.0 r) old.core new.core old.committer new.committer) c.in-Some.is t.1 in
    let both = publishes disk old new t.0 (Some c.in-Some.result) h in
    record { step = both.0; safe = both.1; device = same_published disk old new t.0 (Some c.in-Some.result) h }

pub returns-in-None : goal.returns-in-None
returns-in-None g c =
    let disk = g.D.Disk.model in
    let old = c.args.self.now in
    let new = record old { core = c.publish.new.core; committer = c.publish.new.committer } in
    let t = c.publish.ensures in
    let h = subst (λ (r : Option (Result (Unit {0}) PublishFault)). steps.IsStep disk exactly (steps.Publish t.0 r) old.core new.core old.committer new.committer) c.in-None.is t.1 in
    let both = publishes disk old new t.0 None h in
    record { step = both.0; safe = both.1; device = same_published disk old new t.0 None h }
