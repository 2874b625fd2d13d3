use Rattle.std.proofs.Common.{arith}
use Rattle.apd_desk.proofs.Replies.{at_once_on, settled_on}
use Rattle.apd_desk.proofs.controlling.control_worker.Goals as goal

pub loop-preserved-then-rest : goal.loop-preserved-then-rest
loop-preserved-then-rest g c =
    let before = c.loop.invariant.0 in
    let served = c.serve_commands-served.ensures.later in
    let later = c.reply_settled-replied.ensures.later in (
      (omega (arith, before, served, later), omega (arith, before, served, later)),
      settled_on _ _ _ (at_once_on _ _ _ c.loop.invariant.1 c.serve_commands-served.ensures.replied) c.reply_settled-replied.ensures.replied,
    )

pub loop-preserved : goal.loop-preserved
loop-preserved g c =
    let before = c.loop.invariant.0 in
    let served = c.serve_commands-served.ensures.later in
    let later = c.reply_settled-replied.ensures.later in (
      (omega (arith, before, served, later), omega (arith, before, served, later)),
      settled_on _ _ _ (at_once_on _ _ _ c.loop.invariant.1 c.serve_commands-served.ensures.replied) c.reply_settled-replied.ensures.replied,
    )
