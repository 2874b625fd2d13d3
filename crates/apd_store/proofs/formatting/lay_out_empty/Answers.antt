use Rattle.std.proofs.Common.{refl}
use Rattle.apd_base.specs.State.{empty_state}
use Rattle.apd_store.proofs.Heads.{begins_empty}
use Rattle.apd_store.proofs.formatting.lay_out_empty.Goals as goal

pub returns-clause-any_moment : goal.returns-clause-any_moment
returns-clause-any_moment g c = λ h. c.lay_out.ensures.any_moment 1 13 empty_state h begins_empty refl

pub returns-clause-found : goal.returns-clause-found
returns-clause-found g c = λ h. c.lay_out.ensures.found 1 13 empty_state h begins_empty refl
