use Rattle.std.proofs.Common.{[], ◌∷◌}
use Rattle.apd_history.proofs.Moves.{begins}
use Rattle.apd_history.proofs.opened.Opened.new.Goals as goal

pub of_words-requires : goal.of_words-requires
of_words-requires c s = begins (0 ∷ []) []
