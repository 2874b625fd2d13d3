use Rattle.std.proofs.Common.{◌+◌, Err, sym, subst, ap, refl, ◌∙◌}
use Rattle.apd_core.proofs.Words.{StaySound, after_publish, core_of, meaning_of}
use Rattle.apd_table.specs.Staged.{StagedTables}
use Rattle.apd_core.proofs.Publishing.{published_view, published_kept}
use Rattle.apd_core.proofs.Taking.{front_stays}
use Rattle.apd_core.proofs.request_core.Core.publish.Goals as goal

pub unreachable-requires : goal.unreachable-requires
unreachable-requires c =
    let a = c.self.inside in
    c.stage.ensures.invalid (c.in-Err-Invalid.is ∙ ap Err c.in-Err-Invalid.field-0-is)
    (subst (λ cs. StaySound cs a.settled.table) (sym (c.as_slice.ensures ∙ c.self.invariant.batch_is)) (front_stays (core_of a) c.self.invariant.core a.flight))

pub invariant_of-self-2 : goal.invariant_of-self-2
invariant_of-self-2 c =
    let a = c.self.inside in
    let d = record a { settled = c.commit.new.self; number = a.number + a.flight; unsettled = c.settle_front.new.unsettled; flight = 0; batch = c.new.result; held = c.settle_front.new.held } in
    let settled = ap (λ (s : StagedTables). s.table) c.commit.ensures ∙ c.in-Ok.ensures.ok ∙ ap (λ cs. meaning_of cs a.settled.table) c.as_slice.ensures in
    published_kept a d c.self.invariant refl settled refl c.settle_front.ensures.unsettled refl c.settle_front.ensures.held refl refl refl refl c.new.ensures

pub returns-clause-ok : goal.returns-clause-ok
returns-clause-ok c =
    let a = c.self.inside in
    let d = record a { settled = c.commit.new.self; number = a.number + a.flight; unsettled = c.settle_front.new.unsettled; flight = 0; batch = c.new.result; held = c.settle_front.new.held } in
    let settled = ap (λ (s : StagedTables). s.table) c.commit.ensures ∙ c.in-Ok.ensures.ok ∙ ap (λ cs. meaning_of cs a.settled.table) c.as_slice.ensures in
    published_view a d c.self.invariant refl settled refl c.settle_front.ensures.unsettled refl c.settle_front.ensures.held refl refl ∙ ap after_publish c.self.view_is
