use Rattle.std.proofs.Common.{ap, ◌∙◌}
use Rattle.apd_base.specs.Sets.{contains}
use Rattle.apd_acl.proofs.Keys.{has_key}
use Rattle.apd_acl.proofs.address_set.AddressSet.contains.Goals as goal

pub returns : goal.returns
returns c = c.contains.ensures ∙ has_key c.self.inside.keys.keys c.self.invariant c.args.addr ∙ ap (λ s. contains s c.args.addr) c.self.view_is
