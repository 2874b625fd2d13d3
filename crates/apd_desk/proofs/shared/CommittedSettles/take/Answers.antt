use Rattle.apd_desk.proofs.shared.CommittedSettles.take.Goals as goal

pub returns : goal.returns
returns g c = (_, _, c.take.ensures.0)
