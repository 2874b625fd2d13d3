use Rattle.std.proofs.Common.{arith}
use Rattle.apd_frame.proofs.ElementLemmas.{all_bytes, is_longest}
use Rattle.apd_frame.proofs.element.Elements.new.Goals as goal

pub returns-clause-longest : goal.returns-clause-longest
returns-clause-longest c = is_longest 0 c.args.bytes.now (all_bytes c.args.bytes.now (λ i. omega (arith, c.type_inv.bytes i)))
