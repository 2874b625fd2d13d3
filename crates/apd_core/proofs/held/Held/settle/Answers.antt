use Rattle.apd_core.proofs.HeldLemmas.{held_after_settled}
use Rattle.apd_core.proofs.held.Held.settle.Goals as goal

pub invariant_of-self : goal.invariant_of-self
invariant_of-self c = rw c.settle.ensures (held_after_settled c.args.number (record { queues = c.self.inside.queues.items; left = c.self.inside.remaining; given = c.self.inside.given }) c.self.invariant)
