use Rattle.std.proofs.Common.{◌+◌, List, drop, inl, inr, refl, ap}
use Rattle.apd_core.proofs.Words.{Change, drop_all, is_put_of, list_any}
use Rattle.apd_core.proofs.Hearing.{next_change}
use Rattle.apd_core.proofs.Laying.{laid_on, there_on}
use Rattle.apd_core.proofs.last_heard.LastHeard.lay_all.Goals as goal

pub loop-change-init : goal.loop-change-init
loop-change-init c = record { kept = λ k. inl refl; there = λ k put. inl put }

pub loop-change-preserved : goal.loop-change-preserved
loop-change-preserved c =
    let changes = c.args.changes.now in
    let i = c.loop-change.change-index in
    let change : Change = c.change-item.result in
    let left = next_change changes i change c.loop-change-test.true c.change-item.is in
    record {
      kept = laid_on changes i change (drop (i + 1) changes) left c.args.self.now c.loop-change.self c.lay.new.self c.loop-change.invariant.kept c.lay.ensures.kept;
      there = λ k put. there_on changes i change (drop (i + 1) changes) left c.loop-change.self c.lay.new.self k c.lay.ensures.kept (c.in_ok-lay.ensures.there k) (c.loop-change.invariant.there k put);
    }

pub returns-in_err-lay-clause-kept : goal.returns-in_err-lay-clause-kept
returns-in_err-lay-clause-kept c =
    let changes = c.args.changes.now in
    let i = c.loop-change.change-index in
    let change : Change = c.change-item.result in
    let left = next_change changes i change c.loop-change-test.true c.change-item.is in
    laid_on changes i change (drop (i + 1) changes) left c.args.self.now c.loop-change.self c.lay.new.self c.loop-change.invariant.kept c.lay.ensures.kept

pub returns-clause-there : goal.returns-clause-there
returns-clause-there c k put =
    elim (c.loop-change.invariant.there k put) [
      | inl left ↦ let none = ap (λ (cs : List Change). list_any (is_put_of k) cs) (drop_all c.loop-change.change-index c.args.changes.now c.loop-change-test.false) in cc
      | inr some ↦ some
    ]
