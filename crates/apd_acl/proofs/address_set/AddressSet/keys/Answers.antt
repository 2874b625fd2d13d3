use Rattle.std.proofs.Common.{ap, ◌∙◌}
use Rattle.std.specs.FinMap as map
use Rattle.apd_acl.proofs.Keys.{keys_are}
use Rattle.apd_acl.proofs.address_set.AddressSet.keys.Goals as goal

pub returns : goal.returns
returns c = keys_are c.self.inside.keys.keys c.self.invariant ∙ ap map.keys c.self.view_is
