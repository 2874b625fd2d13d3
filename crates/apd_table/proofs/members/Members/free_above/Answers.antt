use Rattle.apd_table.proofs.Places.{full_within, least_within}
use Rattle.apd_table.proofs.members.Members.free_above.Goals as goal

pub returns-in-Some-clause-some : goal.returns-in-Some-clause-some
returns-in-Some-clause-some c = least_within c.args.self.now.words c.args.last c.loop-w.w c.in-Some.aid c.loop-w.invariant c.in-Some.ensures.some c.within.result c.within.ensures.some

pub returns-in-Some-clause-none : goal.returns-in-Some-clause-none
returns-in-Some-clause-none c = full_within c.args.self.now.words c.args.last c.loop-w.w c.in-Some.aid c.loop-w.invariant c.in-Some.ensures.some c.within.result c.within.ensures.none
