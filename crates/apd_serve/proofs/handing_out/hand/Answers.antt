use Rattle.std.proofs.Common.{refl, ◌∙◌}
use Rattle.apd_serve.proofs.Giving.{handed_none, handed_on}
use Rattle.apd_serve.proofs.handing_out.hand.Goals as goal

pub loop-init : goal.loop-init
loop-init g c = (refl, handed_none g.R.Radio.model g.R.Radio.frames _ _)

pub loop-preserved : goal.loop-preserved
loop-preserved g c = (
  c.hand_to.ensures.count ∙ c.loop.invariant.0,
  handed_on g.R.Radio.model g.R.Radio.frames c.hand_to.result _ _ _ _ _ _ c.loop.invariant.1 c.hand_to.ensures.hands,
)

pub returns-then-is_ok-clause-hands : goal.returns-then-is_ok-clause-hands
returns-then-is_ok-clause-hands g c =
    handed_on g.R.Radio.model g.R.Radio.frames c.hand_to.result _ _ _ _ _ _ c.loop.invariant.1 c.hand_to.ensures.hands
