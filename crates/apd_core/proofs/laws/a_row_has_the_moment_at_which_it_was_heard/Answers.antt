use Rattle.apd_core.proofs.Noting.{moments_noted}
use Rattle.apd_core.proofs.laws.a_row_has_the_moment_at_which_it_was_heard.Goals as goal

pub returns : goal.returns
returns c = λ s m i core. moments_noted s m i core.moments
