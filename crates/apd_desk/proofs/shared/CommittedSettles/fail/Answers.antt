use Rattle.apd_desk.proofs.shared.CommittedSettles.fail.Goals as goal

pub returns : goal.returns
returns g c = (_, _, c.fail.ensures.0)
