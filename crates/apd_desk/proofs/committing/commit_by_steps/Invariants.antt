use Rattle.apd_steps.specs.Run.{IsRun}
use Rattle.apd_desk.proofs.committing.commit_by_steps.Given as goal

abbrev pub invariant-loop : goal.invariant-loop
invariant-loop g l = IsRun g.D.Disk.model g.A.Settles.made l.fn.core l.core l.fn.committer l.committer
