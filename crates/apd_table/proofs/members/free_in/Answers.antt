use Rattle.apd_table.proofs.Places.{first_clear_is}
use Rattle.apd_table.proofs.members.free_in.Goals as goal

pub returns-clause-some : goal.returns-clause-some
returns-clause-some c =
    let word = c.word_above.ensures in
    let bit = c.in_ok-bit.ensures.some in
    first_clear_is c.args.words.now c.args.last c.args.w c.word_above.result word.others word.first c.in_ok-bit.bit bit.0 bit.1 bit.2
