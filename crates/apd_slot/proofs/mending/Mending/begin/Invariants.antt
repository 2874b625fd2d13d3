use Rattle.std.proofs.Common.{◌≡◌, List, [], ◌++◌, false, length}
use Rattle.apd_slot.specs.Mending.{AreRefused, IsMended}
use Rattle.apd_slot.specs.Slots.{is_up_of, radio_of}
use Rattle.apd_slot.proofs.mending.Mending.begin.Given as goal

-- the slot has its own radio still, and each spare that was tried was refused
abbrev pub invariant-loop-spare : goal.invariant-loop-spare
invariant-loop-spare g l =
    IsMended g.R.Radio.model g.R.Radio.frames [] l.fn.slot l.slot
    × (radio_of l.slot ≡ radio_of l.fn.slot)
    × (is_up_of l.fn.slot ≡ false → is_up_of l.slot ≡ false)
    × (l.self.tries ≡ 3)
    × ((tried : List g.row.R.Denot)
    × (l.fn.self.spares.items ≡ tried ++ l.self.spares.items)
    × AreRefused g.R.Radio.model g.R.Radio.frames tried l.fn.slot l.slot)

abbrev pub decreases-loop-spare : goal.decreases-loop-spare
decreases-loop-spare g l = length l.self.spares.items
