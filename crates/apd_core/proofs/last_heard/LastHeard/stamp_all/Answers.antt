use Rattle.std.proofs.Common.{◌+◌, cond, List, drop, Some, sym, ap, ◌∙◌}
use Rattle.std.specs.FinMap as map
use Rattle.apd_core.proofs.Words.{Change, drop_all, is_put_of, list_any}
use Rattle.apd_core.proofs.Hearing.{next_change}
use Rattle.apd_core.proofs.Laying.{put_of_all, stamped_on, stamped_some}
use Rattle.apd_core.proofs.last_heard.LastHeard.stamp_all.Goals as goal

pub stamp-requires : goal.stamp-requires
stamp-requires c k put =
    let changes = c.args.changes.now in
    let i = c.loop-change.change-index in
    let change : Change = c.change-item.result in
    c.loop-change.invariant.there k (put_of_all changes i change (drop (i + 1) changes) (next_change changes i change c.loop-change-test.true c.change-item.is) k put)

pub loop-change-preserved : goal.loop-change-preserved
loop-change-preserved c =
    let changes = c.args.changes.now in
    let i = c.loop-change.change-index in
    let change : Change = c.change-item.result in
    let left = next_change changes i change c.loop-change-test.true c.change-item.is in
    record {
      leads = λ k. stamped_on changes i change (drop (i + 1) changes) left k c.args.moment _ _ _ (c.stamp.ensures k) (c.loop-change.invariant.leads k);
      there = λ k put. stamped_some (is_put_of k change) c.args.moment _ _ (c.stamp.ensures k) (c.loop-change.invariant.there k put);
    }

pub returns : goal.returns
returns c k =
    sym (ap (λ (cs : List Change). cond (list_any (is_put_of k) cs) (Some c.args.moment) (map.get c.loop-change.self k)) (drop_all c.loop-change.change-index c.args.changes.now c.loop-change-test.false))
    ∙ c.loop-change.invariant.leads k
