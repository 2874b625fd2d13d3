use Rattle.std.proofs.Common.{arith}
use Rattle.apd_desk.proofs.Asking.{by_ask}
use Rattle.apd_desk.proofs.Replies.{told}
use Rattle.apd_desk.proofs.shared.Shared.ask.Goals as goal

pub returns-clause-behind : goal.returns-clause-behind
returns-clause-behind g c = λ number is. let h = (c.ask.ensures.behind number).0 is in omega (arith, h)

pub returns-clause-told : goal.returns-clause-told
returns-clause-told g c = told c.ask.result c.deref.result.now.core c.args.query c.ask.ensures.answer

pub returns-clause-tells : goal.returns-clause-tells
returns-clause-tells g c =
    let s = c.ask.ensures in
    by_ask _ c.args.seat.now c.ask.new.seat c.ask.result c.args.query s.tells s.never_back s.err s.count
