use Rattle.apd_desk.proofs.shared.CommittedSettles.publish.Goals as goal

pub returns-then-is_ok-clause-told : goal.returns-then-is_ok-clause-told
returns-then-is_ok-clause-told g c = (_, _, c.publish-answer.ensures.told.0)

pub returns-else-is_ok-clause-told : goal.returns-else-is_ok-clause-told
returns-else-is_ok-clause-told g c = (_, _, c.publish-answer.ensures.told.0)
