use Rattle.apd_steps.proofs.ServingLemmas.{serve_on, tended_beside}
use Rattle.apd_desk.proofs.receiving.Parts.apply_settled.Goals as goal

pub loop-preserved : goal.loop-preserved
loop-preserved g c =
    let radio = g.R.Radio.model in
    let frames = g.R.Radio.frames in
    serve_on radio frames g.A.Asks.made _ _ _ _ _ _ _ _ _ c.loop.invariant
    (tended_beside radio frames g.A.Asks.made _ _ _ _ _ c.advance-next.ensures.tends)

pub returns-then-ne : goal.returns-then-ne
returns-then-ne g c =
    let radio = g.R.Radio.model in
    let frames = g.R.Radio.frames in
    serve_on radio frames g.A.Asks.made _ _ _ _ _ _ _ _ _ c.loop.invariant
    (tended_beside radio frames g.A.Asks.made _ _ _ _ _ c.advance-next.ensures.tends)
