use Rattle.std.proofs.Common.{◌≡◌, Some, Err, refl, sym, ap, subst, ◌∙◌, arith}
use Rattle.std.specs.Prelude.{IfErr}
use Rattle.std.proofs.lemmas.Result.{err_from_is_err_and}
use Rattle.std.specs.FinMap.{from_sorted}
use Rattle.apd_base.specs.Addr.{addr_cmp}
use Rattle.apd_conf.specs.Lines.{lines}
use Rattle.apd_conf.specs.ListFile.{edit_of, IsFaultOf}
use Rattle.apd_conf.proofs.LineLemmas.{next_of, at_end}
use Rattle.apd_conf.proofs.ListLemmas.{bad_line, listed_more, too_many, fault_none, whole_list, no_rows, is_list}
use Rattle.apd_conf.proofs.list_file.rows_of.Goals as goal

pub loop-line-init : goal.loop-line-init
loop-line-init c = record {
  left = c.into_iter-line-iterator.ensures.into_iter_gives ∙ c.lines_of-line-items.ensures.lines;
  few = omega arith;
  sorted = rw c.new-list.ensures tt;
  addresses = ap (from_sorted {R = addr_cmp}) c.new-list.ensures ∙ no_rows;
  within = rw c.new-list.ensures (omega arith);
  faultless = λ n lt. absurd (omega arith);
}

pub returns-in_default-clause-err : goal.returns-in_default-clause-err
returns-in_default-clause-err c =
    let next = next_of (lines c.args.file.now) c.loop-line.number c.in-Some.line.now c.next.new.self c.loop-line.invariant.few (sym c.loop-line.invariant.left ∙ c.in-Some.ensures.steps) in
    bad_line (lines c.args.file.now) c.loop-line.number c.in-Some.line.now c.next.new.self next (sym c.edit_of.ensures ∙ c.in_default.is) c.loop-line.invariant.faultless

pub returns-in_err-apply-clause-err : goal.returns-in_err-apply-clause-err
returns-in_err-apply-clause-err c =
    let next = next_of (lines c.args.file.now) c.loop-line.number c.in-Some.line.now c.next.new.self c.loop-line.invariant.few (sym c.loop-line.invariant.left ∙ c.in-Some.ensures.steps) in
    let p = err_from_is_err_and c.from_residual.result c.from_residual.ensures.1 in
    subst (λ r. IfErr r (IsFaultOf (lines c.args.file.now))) (sym (p.1 ∙ ap Err (p.2 ∙ c.in_err-apply.ensures.err)))
    (too_many (lines c.args.file.now) c.loop-line.number c.in-Some.line.now c.next.new.self next c.in-Some-edit_of.edit (sym c.edit_of.ensures ∙ c.in-Some-edit_of.is) c.loop-line.list c.loop-line.invariant.addresses c.in_err-apply.ensures.many c.loop-line.invariant.faultless)

pub loop-line-preserved : goal.loop-line-preserved
loop-line-preserved c =
    let next = next_of (lines c.args.file.now) c.loop-line.number c.in-Some.line.now c.next.new.self c.loop-line.invariant.few (sym c.loop-line.invariant.left ∙ c.in-Some.ensures.steps) in
    let is : edit_of c.in-Some.line.now ≡ Some c.in-Some-edit_of.edit = sym c.edit_of.ensures ∙ c.in-Some-edit_of.is in
    record {
      left = sym next.behind;
      few = next.few;
      sorted = c.apply.ensures.sorted;
      addresses = listed_more (lines c.args.file.now) c.loop-line.number c.in-Some.line.now c.next.new.self next c.in-Some-edit_of.edit is c.loop-line.list c.loop-line.invariant.addresses c.apply.new.list c.apply.ensures.sorted c.in_ok-apply.ensures.ok;
      within = c.apply.ensures.few;
      faultless = fault_none (lines c.args.file.now) c.loop-line.number c.in-Some.line.now c.next.new.self next c.in-Some-edit_of.edit is c.loop-line.list c.loop-line.invariant.addresses c.apply.new.list c.apply.ensures.sorted c.in_ok-apply.ensures.ok c.apply.ensures.few c.loop-line.invariant.faultless;
    }

pub returns-clause-ok : goal.returns-clause-ok
returns-clause-ok c =
    whole_list (lines c.args.file.now) c.loop-line.number c.loop-line.list _
    (at_end (lines c.args.file.now) c.loop-line.number c.loop-line.invariant.few (sym c.loop-line.invariant.left ∙ c.in-None.ensures.steps.0))
    c.loop-line.invariant.sorted c.loop-line.invariant.addresses c.loop-line.invariant.faultless refl

pub returns-clause-list : goal.returns-clause-list
returns-clause-list c = is_list c.loop-line.list _ c.loop-line.invariant.sorted c.loop-line.invariant.within refl
