use Rattle.std.proofs.Common.{ap, ◌∙◌}
use Rattle.std.specs.FinMap as map
use Rattle.apd_acl.proofs.Keys.{len-keys}
use Rattle.apd_acl.proofs.address_set.AddressSet.len.Goals as goal

pub returns : goal.returns
returns c = c.len.ensures.len ∙ len-keys c.self.inside.keys.keys c.self.invariant ∙ ap map.len c.self.view_is
