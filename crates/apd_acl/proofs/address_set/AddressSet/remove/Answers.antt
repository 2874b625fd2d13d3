use Rattle.std.proofs.Common.{ap, ◌∙◌}
use Rattle.std.specs.FinMap as map
use Rattle.apd_acl.proofs.Keys.{rows_sorted, set_removed}
use Rattle.apd_acl.proofs.address_set.AddressSet.remove.Goals as goal

pub invariant_of-self : goal.invariant_of-self
invariant_of-self c = rows_sorted c.remove.new.self.keys c.remove.ensures.ordered

pub returns : goal.returns
returns c =
    let keys = c.self.inside.keys.keys in
    let new = c.remove.new.self.keys in
    set_removed keys new c.self.invariant (rows_sorted new c.remove.ensures.ordered) c.args.addr (λ q. c.remove.ensures.updates.0 q) ∙ ap (λ s. map.remove s c.args.addr) c.self.view_is
