use Rattle.std.proofs.Common.{◌≡◌, drop}
use Rattle.apd_ctrl.specs.Words.{word_of, word_among}
use Rattle.apd_ctrl.proofs.word.word_of.Given as goal

-- no word so far is spelled
abbrev pub invariant-loop-word : goal.invariant-loop-word
invariant-loop-word l = word_of l.text ≡ word_among l.text (drop l.word-index l.word-items)
