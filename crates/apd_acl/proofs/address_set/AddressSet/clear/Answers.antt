use Rattle.std.proofs.Common.{ap, ◌∙◌}
use Rattle.apd_acl.specs.Keys.{set_of}
use Rattle.apd_acl.proofs.Keys.{no_keys}
use Rattle.apd_acl.proofs.address_set.AddressSet.clear.Goals as goal

pub returns : goal.returns
returns c = ap set_of c.clear.ensures.empty ∙ no_keys
