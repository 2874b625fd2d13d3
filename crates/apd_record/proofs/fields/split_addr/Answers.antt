use Rattle.std.proofs.Common.{arith}
use Rattle.apd_record.proofs.Fronts.{address_range}
use Rattle.apd_record.proofs.fields.split_addr.Goals as goal

pub returns-clause-range : goal.returns-clause-range
returns-clause-range c = address_range c.args.bytes.now c.in_ok-front.front.now (λ i. omega (arith, c.type_inv.bytes i)) c.in_ok-front.ensures.cases.0 (omega (arith, c.in_ok-front.ensures.cases.2))
