use Rattle.apd_desk.proofs.Asking.{by_collect}
use Rattle.apd_desk.proofs.Replies.{collected}
use Rattle.apd_desk.proofs.shared.Shared.collect.Goals as goal

pub returns-clause-outs : goal.returns-clause-outs
returns-clause-outs g c = collected c.hand.result (λ outs. outs.items) c.args.to c.deref_mut.result.now.core c.hand.ensures.sound c.hand.ensures.outs

pub returns-clause-tells : goal.returns-clause-tells
returns-clause-tells g c =
    let s = c.hand.ensures in
    by_collect _ _ c.args.seat.now c.hand.new.seat (λ outs. outs.items) c.hand.result c.args.to s.tells s.later s.count
