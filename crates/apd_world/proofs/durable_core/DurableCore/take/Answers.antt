use Rattle.std.proofs.Common.{Option, Some, None, Result, Ok, Err, subst}
use Rattle.std.specs.declared.alloc.AllocError.{AllocError}
use Rattle.apd_steps.specs.Calls.{exactly}
use Rattle.apd_steps.specs.Run as steps
use Rattle.apd_world.proofs.Words.{StoreFault}
use Rattle.apd_world.proofs.FromSteps.{same_taken, takes}
use Rattle.apd_world.proofs.durable_core.DurableCore.take.Goals as goal

pub returns-in-Ok-Some : goal.returns-in-Ok-Some
returns-in-Ok-Some g c =
    let disk = g.D.Disk.model in
    let old = c.args.self.now in
    let new = record old { core = c.take.new.core; committer = c.take.new.committer } in
    let t = c.take.ensures in
    let one = subst (λ (r : Result (Option (Result (Unit {0}) StoreFault)) AllocError). steps.IsStep disk exactly (steps.Take t.0 r) old.core new.core old.committer new.committer) c.in-Ok-Some.is t.1 in
    let h = subst (λ (r : Option (Result (Unit {0}) StoreFault)). steps.IsStep disk exactly (steps.Take t.0 (Ok r)) old.core new.core old.committer new.committer) c.in-Ok-Some.field-0-is one in
    let both = takes disk old new t.0 (Ok (Some c.in-Ok-Some.result)) h in
    record { step = both.0; safe = both.1; device = same_taken disk old new t.0 (Ok (Some c.in-Ok-Some.result)) h }

pub returns-in-Ok-None : goal.returns-in-Ok-None
returns-in-Ok-None g c =
    let disk = g.D.Disk.model in
    let old = c.args.self.now in
    let new = record old { core = c.take.new.core; committer = c.take.new.committer } in
    let t = c.take.ensures in
    let one = subst (λ (r : Result (Option (Result (Unit {0}) StoreFault)) AllocError). steps.IsStep disk exactly (steps.Take t.0 r) old.core new.core old.committer new.committer) c.in-Ok-None.is t.1 in
    let h = subst (λ (r : Option (Result (Unit {0}) StoreFault)). steps.IsStep disk exactly (steps.Take t.0 (Ok r)) old.core new.core old.committer new.committer) c.in-Ok-None.field-0-is one in
    let both = takes disk old new t.0 (Ok None) h in
    record { step = both.0; safe = both.1; device = same_taken disk old new t.0 (Ok None) h }

pub returns-in-Err : goal.returns-in-Err
returns-in-Err g c =
    let disk = g.D.Disk.model in
    let old = c.args.self.now in
    let new = record old { core = c.take.new.core; committer = c.take.new.committer } in
    let t = c.take.ensures in
    let h = subst (λ (r : Result (Option (Result (Unit {0}) StoreFault)) AllocError). steps.IsStep disk exactly (steps.Take t.0 r) old.core new.core old.committer new.committer) c.in-Err.is t.1 in
    let both = takes disk old new t.0 (Err c.in-Err.field-0) h in
    record { step = both.0; safe = both.1; device = same_taken disk old new t.0 (Err c.in-Err.field-0) h }
