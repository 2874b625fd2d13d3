use Rattle.apd_core.proofs.last_heard.LastHeard.make_room.Goals as goal

pub returns-in_default-clause-err : goal.returns-in_default-clause-err
returns-in_default-clause-err c = c.give_back.ensures c.args.self.now c.requires c.lay_all.ensures.kept
