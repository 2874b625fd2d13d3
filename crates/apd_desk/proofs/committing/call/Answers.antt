use Rattle.apd_steps.proofs.RunLemmas.{run_one}
use Rattle.apd_steps.specs.Run.{Call}
use Rattle.apd_desk.proofs.committing.call.Goals as goal

pub returns : goal.returns
returns g c = (
  run_one g.D.Disk.model g.A.Settles.made (Call c.call-told.result) _ _ _ _ tt c.call-told.ensures,
  c.went_called.ensures.refused,
  λ is. absurd (c.went_called.ensures.some is),
)
