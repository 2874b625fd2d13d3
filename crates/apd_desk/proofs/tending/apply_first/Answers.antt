use Rattle.std.proofs.Common.{[]}
use Rattle.apd_desk.proofs.Giving.{next_served, served_on}
use Rattle.apd_desk.proofs.TendLemmas.{short_on, told_on}
use Rattle.apd_desk.proofs.tending.apply_first.Goals as goal

pub returns-in-Some-Ok-clause-tends_on : goal.returns-in-Some-Ok-clause-tends_on
returns-in-Some-Ok-clause-tends_on g c =
    told_on g.R.Radio.model g.R.Radio.frames c.apply_next.result _ _ _ _ _ _ _ c.in-Some-Ok.is c.in-Some-Ok.field-0-is
    (record { applies = c.apply_next.ensures.applied; receives = c.apply_next.ensures.frames })
    c.mend_after.ensures.same c.mend_after.ensures.mending c.mend_after.ensures.begins

pub returns-in-Some-Ok-clause-served : goal.returns-in-Some-Ok-clause-served
returns-in-Some-Ok-clause-served g c =
    served_on g.R.Radio.model [] [] _ _ _ (next_served g.R.Radio.model _ _ _ c.apply_next.ensures.applied) c.mend_after.ensures.served

pub returns-in-Some-Err-clause-tends_on : goal.returns-in-Some-Err-clause-tends_on
returns-in-Some-Err-clause-tends_on g c =
    short_on g.R.Radio.model g.R.Radio.frames c.apply_next.result _ _ _ _ _ c.in-Some-Err.is c.in-Some-Err.field-0-is
    (record { applies = c.apply_next.ensures.applied; receives = c.apply_next.ensures.frames })
