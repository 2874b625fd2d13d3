use Rattle.apd_acl.proofs.Keys.{least_some, least_none}
use Rattle.apd_acl.proofs.address_set.AddressSet.least.Goals as goal

pub returns-clause-some : goal.returns-clause-some
returns-clause-some c = rw (← c.self.view_is) (least_some c.self.inside.keys.keys c.self.invariant c.first.result c.first.ensures.member c.first.ensures.least c.copied.result c.copied.ensures)

pub returns-clause-none : goal.returns-clause-none
returns-clause-none c = rw (← c.self.view_is) (least_none c.self.inside.keys.keys c.self.invariant c.first.result c.first.ensures.variant c.copied.result c.copied.ensures)
