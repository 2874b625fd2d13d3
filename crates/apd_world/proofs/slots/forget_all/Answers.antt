use Rattle.std.proofs.Common.{◌<◌, arith, length, get_or}
use Rattle.std.proofs.lemmas.List.{get_or_default}
use Rattle.apd_world.proofs.Words.{HasForgotten}
use Rattle.apd_world.proofs.SoFar.{all_so_far, none_so_far, one_so_far}
use Rattle.apd_world.proofs.slots.forget_all.Goals as goal

pub loop-slot-init : goal.loop-slot-init
loop-slot-init g c = none_so_far HasForgotten c.args.slots.now

pub loop-slot-preserved : goal.loop-slot-preserved
loop-slot-preserved g c =
    let h = c.loop-slot.invariant in
    let now = c.loop-slot.slots in
    let i = c.loop-slot.slot-index in
    let before = get_or now i c.slot-item.result in
    let lt : i < length now = omega (arith, h.many, c.loop-slot-test.true) in
    one_so_far HasForgotten i c.args.slots.now now before c.forget.new.self (get_or_default now i c.slot-item.result before lt) c.forget.ensures.same.bssid h lt c.forget.ensures

pub returns : goal.returns
returns g c = all_so_far HasForgotten c.loop-slot.slot-index c.args.slots.now c.loop-slot.slots c.loop-slot-test.false c.loop-slot.invariant
