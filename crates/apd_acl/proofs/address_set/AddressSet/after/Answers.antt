use Rattle.apd_acl.proofs.Keys.{above_some, above_none}
use Rattle.apd_acl.proofs.address_set.AddressSet.after.Goals as goal

pub returns-clause-some : goal.returns-clause-some
returns-clause-some c =
    let part = c.range.ensures.in_range tt in
    rw (← c.self.view_is) (above_some c.self.inside.keys.keys c.self.invariant c.args.addr c.range.result c.next.new.self c.next.result c.next.ensures.steps part.1 part.2 c.copied.result c.copied.ensures)

pub returns-clause-none : goal.returns-clause-none
returns-clause-none c =
    let part = c.range.ensures.in_range tt in
    rw (← c.self.view_is) (above_none c.self.inside.keys.keys c.self.invariant c.args.addr c.range.result c.next.new.self c.next.result c.next.ensures.steps part.5 c.copied.result c.copied.ensures)
