use Rattle.apd_table.proofs.Places.{first_set, others_kept}
use Rattle.apd_table.proofs.members.word_above.Goals as goal

pub returns-then-w-last-clause-others : goal.returns-then-w-last-clause-others
returns-then-w-last-clause-others c = others_kept c.args.words.now c.args.last c.args.w c.if-w-last.true

pub returns-then-w-last-clause-first : goal.returns-then-w-last-clause-first
returns-then-w-last-clause-first c = first_set c.args.words.now c.args.last c.args.w c.if-w-last.true
