use Rattle.apd_core.proofs.Laying.{taken_back}
use Rattle.apd_core.proofs.last_heard.LastHeard.give_back.Goals as goal

pub returns : goal.returns
returns c before moments laid = taken_back c.args.table.now before moments c.args.changes.now c.args.self.now laid c.tidy_all.new.self c.tidy_all.ensures
