use Rattle.std.proofs.Common.{◌+◌, List, drop, is_some, sym, ap, ◌∙◌}
use Rattle.std.specs.FinMap as map
use Rattle.apd_core.proofs.Words.{Change, drop_all, is_of, list_any, moment_left}
use Rattle.apd_core.proofs.Hearing.{next_change}
use Rattle.apd_core.proofs.Laying.{nothing_tidied, tidied_on}
use Rattle.apd_core.proofs.last_heard.LastHeard.tidy_all.Goals as goal

pub loop-change-preserved : goal.loop-change-preserved
loop-change-preserved c k =
    let changes = c.args.changes.now in
    let i = c.loop-change.change-index in
    let change : Change = c.change-item.result in
    let left = next_change changes i change c.loop-change-test.true c.change-item.is in
    tidied_on changes i change (drop (i + 1) changes) left k (is_of k) (is_some (map.get c.args.table.now.stations k)) _ _ _ (c.tidy.ensures k) (c.loop-change.invariant k)

pub returns : goal.returns
returns c k =
    sym (ap (λ (cs : List Change). moment_left (list_any (is_of k) cs) (is_some (map.get c.args.table.now.stations k)) (map.get c.loop-change.self k)) (drop_all c.loop-change.change-index c.args.changes.now c.loop-change-test.false)
    ∙ nothing_tidied (is_some (map.get c.args.table.now.stations k)) (map.get c.loop-change.self k))
    ∙ c.loop-change.invariant k
