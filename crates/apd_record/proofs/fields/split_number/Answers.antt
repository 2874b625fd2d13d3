use Rattle.std.proofs.Common.{arith}
use Rattle.apd_record.proofs.Fronts.{number_is}
use Rattle.apd_record.proofs.fields.split_number.Goals as goal

pub returns-clause-some : goal.returns-clause-some
returns-clause-some c = number_is c.args.bytes.now c.in_ok-front.front.now c.in_ok-front.rest.now c.from_le_bytes.result (λ i. omega (arith, c.type_inv.bytes i)) c.in_ok-front.ensures.cases.0 c.in_ok-front.ensures.cases.1 (omega (arith, c.in_ok-front.ensures.cases.2)) c.from_le_bytes.ensures
