use Rattle.apd_steps.proofs.RunLemmas.{ends_so, joined_fails, run_more, run_on}
use Rattle.apd_steps.specs.Run.{Fail}
use Rattle.apd_desk.proofs.EndLemmas.{idle_so}
use Rattle.apd_desk.proofs.committing.commit_by_steps.Goals as goal

pub loop-preserved-in-On : goal.loop-preserved-in-On
loop-preserved-in-On g c = run_on g.D.Disk.model g.A.Settles.made _ _ _ _ _ _ c.loop.invariant c.step.ensures.0

pub loop-preserved-in-Settled : goal.loop-preserved-in-Settled
loop-preserved-in-Settled g c = run_on g.D.Disk.model g.A.Settles.made _ _ _ _ _ _ c.loop.invariant c.step.ensures.0

pub loop-preserved-in-Nothing-2 : goal.loop-preserved-in-Nothing-2
loop-preserved-in-Nothing-2 g c = run_on g.D.Disk.model g.A.Settles.made _ _ _ _ _ _ c.loop.invariant c.step.ensures.0

pub loop-preserved : goal.loop-preserved
loop-preserved g c = run_on g.D.Disk.model g.A.Settles.made _ _ _ _ _ _ c.loop.invariant c.step.ensures.0

pub returns-in-Nothing : goal.returns-in-Nothing
returns-in-Nothing g c =
    let went = c.step.ensures in (
      run_on g.D.Disk.model g.A.Settles.made _ _ _ _ _ _ c.loop.invariant went.0,
      idle_so went.0.steps c.loop.invariant.steps (went.2 c.in-Nothing.is),
    )

pub returns-in-Refused : goal.returns-in-Refused
returns-in-Refused g c =
    let disk = g.D.Disk.model in
    let made = g.A.Settles.made in
    let before = c.loop.invariant in
    let went = c.step.ensures in
    let ends = ends_so went.0.steps before.steps (went.1 c.in-Refused.is) in (
      run_more disk made Fail _ _ _ _ _ _ (run_on disk made _ _ _ _ _ _ before went.0)
          (ends, joined_fails went.0.steps before.steps went.0.fails before.fails) c.fail.ensures,
      ends,
    )
