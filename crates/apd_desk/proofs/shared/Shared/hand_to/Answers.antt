use Rattle.apd_desk.proofs.Asking.{by_hand}
use Rattle.apd_desk.proofs.shared.Shared.hand_to.Goals as goal

pub returns-clause-hands : goal.returns-clause-hands
returns-clause-hands g c =
    let s = c.hand_to.ensures in
    by_hand _ _ c.args.seat.now c.hand_to.new.seat c.hand_to.result _ _ _ s.hands s.later s.count
