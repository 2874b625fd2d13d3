use Rattle.std.proofs.Common.{arith, w64}
use Rattle.std.proofs.lemmas.Nat.Bits.{bit_at_ones, bit_at-trailing_ones}
use Rattle.apd_table.proofs.members.first_clear.Goals as goal

pub returns-then-word-eq18446744073709551615-clause-none : goal.returns-then-word-eq18446744073709551615-clause-none
returns-then-word-eq18446744073709551615-clause-none c j lt = rw c.if-word-eq18446744073709551615.true (bit_at_ones 64 j lt)

pub returns-else-word-eq18446744073709551615-clause-some : goal.returns-else-word-eq18446744073709551615-clause-some
returns-else-word-eq18446744073709551615-clause-some c = rw c.trailing_ones.ensures (bit_at-trailing_ones w64 c.args.word (omega arith))
