use Rattle.std.proofs.Common.{ℕ, Result, Ok, Err, subst}
use Rattle.std.specs.declared.alloc.AllocError.{AllocError}
use Rattle.apd_steps.specs.Handing.{HandsTo}
use Rattle.apd_world.proofs.FromSteps.{hands}
use Rattle.apd_world.proofs.slots.hand_to.Goals as goal

pub returns-in-Ok : goal.returns-in-Ok
returns-in-Ok g c =
    let old = c.args.durable.now in
    let h = subst (λ (r : Result ℕ AllocError). HandsTo c.args.bssid r old.core c.hand_to.new.core c.args.slot.now c.hand_to.new.slot) c.in-Ok.is c.hand_to.ensures in
    let both = hands g.D.Disk.model old c.hand_to.new.core c.args.bssid c.args.slot.now c.hand_to.new.slot c.stops.ensures (Ok c.in-Ok.count) c.sound.ensures h in
    record { queues = both.0; made = both.1 }

pub returns-in-Err : goal.returns-in-Err
returns-in-Err g c =
    let old = c.args.durable.now in
    let h = subst (λ (r : Result ℕ AllocError). HandsTo c.args.bssid r old.core c.hand_to.new.core c.args.slot.now c.hand_to.new.slot) c.in-Err.is c.hand_to.ensures in
    let both = hands g.D.Disk.model old c.hand_to.new.core c.args.bssid c.args.slot.now c.hand_to.new.slot c.stops.ensures (Err c.in-Err.field-0) c.sound.ensures h in
    record { queues = both.0; made = both.1 }
