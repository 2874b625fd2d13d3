use Rattle.std.proofs.Common.{sym, ap, ◌∙◌}
use Rattle.std.specs.FinMap as map
use Rattle.apd_slot.proofs.Back.{put_over, remove_back}
use Rattle.apd_slot.proofs.slot.Slot.put_back.Goals as goal

pub returns-in-Some-clause-wanted : goal.returns-in-Some-clause-wanted
returns-in-Some-clause-wanted g c wanted aid is was =
    put_over c.insert.result wanted _ _ c.args.addr aid c.in-Some.aid is (sym was ∙ c.in-Some.is) c.insert.ensures.over c.insert.ensures.ok

pub returns-in-None-clause-wanted : goal.returns-in-None-clause-wanted
returns-in-None-clause-wanted g c wanted aid is was =
    c.remove.ensures ∙ ap (λ m. map.remove m c.args.addr) is ∙ remove_back wanted c.args.addr aid (sym was ∙ c.in-None.is)
