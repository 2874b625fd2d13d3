use Rattle.apd_store.proofs.Found.{opens, both_open, other_shut}
use Rattle.apd_store.proofs.reading.is_current.Goals as goal

pub returns-in-Some-split_epoch : goal.returns-in-Some-split_epoch
returns-in-Some-split_epoch c =
    both_open c.args.half.now c.args.other.now c.in-Some.epoch c.in-Some-split_epoch.others
    (opens c.args.half.now c.in-Some.field-0-1.now c.in-Some.epoch c.in-Some.ensures.some c.in-Some.ensures.range)
    (opens c.args.other.now c.in-Some-split_epoch.field-0-1.now c.in-Some-split_epoch.others c.in-Some-split_epoch.ensures.some c.in-Some-split_epoch.ensures.range)

pub returns-in-None : goal.returns-in-None
returns-in-None c =
    other_shut c.args.half.now c.args.other.now c.in-Some.epoch
    (opens c.args.half.now c.in-Some.field-0-1.now c.in-Some.epoch c.in-Some.ensures.some c.in-Some.ensures.range) c.in-None.ensures.none
