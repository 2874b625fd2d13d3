use Rattle.apd_desk.proofs.Asking.{by_submit}
use Rattle.apd_desk.proofs.shared.Shared.submit_in_burst.Goals as goal

pub returns-clause-tells : goal.returns-clause-tells
returns-clause-tells g c =
    let s = c.submit.ensures in
    by_submit _ _ c.args.seat.now c.submit.new.seat _ _ c.submit.result c.args.input c.args.moment s.tells s.count s.err s.seen
