use Rattle.std.proofs.Common.{refl, arith}
use Rattle.apd_core.proofs.Queues.{no_first, first_later}
use Rattle.apd_core.proofs.queue.Queue.pop_up_to.Goals as goal

pub returns-in_default : goal.returns-in_default
returns-in_default c = (no_first c.args.number c.args.self.now (cc), refl)

pub returns-then-first-number : goal.returns-then-first-number
returns-then-first-number c = (first_later c.args.number c.in-Some.first c.args.self.now c.requires (cc) (omega (arith, c.if-first-number.true)), refl)
