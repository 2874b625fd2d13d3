use Rattle.apd_record.proofs.Progress.{AreChanges-push}
use Rattle.apd_record.proofs.changes.Changes.push.Goals as goal

pub invariant_of-self-2 : goal.invariant_of-self-2
invariant_of-self-2 c = rw c.in_ok-push.ensures.items (AreChanges-push _ _ c.self.invariant c.range_law.ensures)
