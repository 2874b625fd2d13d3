use Rattle.std.proofs.Common.{refl}
use Rattle.apd_core.proofs.Kept.{handed_kept}
use Rattle.apd_core.proofs.request_core.Core.hand.Goals as goal

pub invariant_of-self : goal.invariant_of-self
invariant_of-self c = handed_kept c.self.inside (record c.self.inside { held = c.hand.new.self }) c.args.to c.hand.result c.self.invariant c.hand.ensures.handed c.hand.ensures.err refl
