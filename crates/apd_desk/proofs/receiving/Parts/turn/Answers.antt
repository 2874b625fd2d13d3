use Rattle.apd_steps.proofs.ServingLemmas.{serve_on}
use Rattle.apd_desk.proofs.receiving.Parts.turn.Goals as goal

pub returns : goal.returns
returns g c =
    serve_on g.R.Radio.model g.R.Radio.frames g.A.Asks.made _ _ _ _ _ _ _ _ _
    c.receive_all-received.ensures c.apply_settled-applied.ensures
