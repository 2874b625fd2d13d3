use Rattle.std.proofs.Common.{ℕ, List, Err}
use Rattle.apd_ctrl.specs.declared.parser.Refusal.{Refusal}
use Rattle.apd_ctrl.specs.declared.parser.Refusal.TheVariants.{Unknown, Fail}
use Rattle.apd_event.specs.Happening.{happening}
use Rattle.apd_desk.specs.Finding.{IsAnswerTo, IsPlacedBySomeCore}
use Rattle.apd_desk.proofs.controlling.carry_out.Goals as goal

refused_so : (tag : ℕ) (bytes : List ℕ) (why : Refusal) → IsPlacedBySomeCore tag bytes (Err why) → IsAnswerTo tag bytes (Err why)
refused_so tag bytes Unknown placed = placed
refused_so tag bytes Fail placed = tt

pub returns-then-submit_passing-clause-placed : goal.returns-then-submit_passing-clause-placed
returns-then-submit_passing-clause-placed g c = (happening c.in-Ok-Do.event, rw c.in-Ok-Do.field-0-is at c.in-Ok-Do.ensures)

pub returns-in-Err-clause-placed : goal.returns-in-Err-clause-placed
returns-in-Err-clause-placed g c = refused_so c.args.tag c.args.bytes.now c.in-Err.refusal c.in-Err.ensures
