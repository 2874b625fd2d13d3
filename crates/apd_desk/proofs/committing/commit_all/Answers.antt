use Rattle.apd_steps.specs.Calls.{of_some_core}
use Rattle.apd_steps.proofs.RunLemmas.{steps_keep}
use Rattle.apd_desk.proofs.Holding.{led}
use Rattle.apd_desk.proofs.committing.commit_all.Goals as goal

pub returns-clause-led : goal.returns-clause-led
returns-clause-led g c =
    let ended = c.commit_by_steps.ensures in (
      led g.D.Disk.model (record { rt = c.args.rt; shared = c.args.shared }) c.commit_by_steps.new.core _ _ ended.0,
      ended.1,
    )

pub returns-clause-keeps : goal.returns-clause-keeps
returns-clause-keeps g c =
    let run = c.commit_by_steps.ensures.0 in
    steps_keep g.D.Disk.model of_some_core run.steps (record { rt = c.args.rt; shared = c.args.shared }) c.commit_by_steps.new.core _ _ run.are
