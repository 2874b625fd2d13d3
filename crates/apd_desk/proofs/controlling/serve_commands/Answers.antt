use Rattle.std.proofs.Common.{arith}
use Rattle.apd_desk.proofs.Replies.{replied_on}
use Rattle.apd_desk.specs.Replying.{IsAtOnce}
use Rattle.apd_desk.proofs.controlling.serve_commands.Goals as goal

pub loop-preserved : goal.loop-preserved
loop-preserved g c =
    let before = c.loop.invariant.0 in
    let later = c.serve_command-next.ensures.later in (
      (omega (arith, before, later), omega (arith, before, later)),
      replied_on IsAtOnce _ _ _ c.loop.invariant.1 c.serve_command-next.ensures.replied,
    )

pub returns-then-ne-clause-replied : goal.returns-then-ne-clause-replied
returns-then-ne-clause-replied g c = replied_on IsAtOnce _ _ _ c.loop.invariant.1 c.serve_command-next.ensures.replied
