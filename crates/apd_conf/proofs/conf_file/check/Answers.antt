use Rattle.std.proofs.Common.{◌+◌, sym, ◌∙◌}
use Rattle.apd_conf.specs.Lines.{lines}
use Rattle.apd_conf.proofs.LineLemmas.{next_of, at_end}
use Rattle.apd_conf.proofs.SettingLemmas.{told_line, first_fault, no_fault, all_faultless}
use Rattle.apd_conf.proofs.conf_file.check.Goals as goal

pub returns-in-Some-line_fault-clause-err : goal.returns-in-Some-line_fault-clause-err
returns-in-Some-line_fault-clause-err c =
    let next = next_of (lines c.args.file.now) c.loop-line.number c.in-Some.line.now c.next.new.self c.loop-line.invariant.few (sym c.loop-line.invariant.left ∙ c.in-Some.ensures.steps) in
    told_line (lines c.args.file.now) (c.loop-line.number + 1) c.in-Some.line.now c.in-Some-line_fault.fault (sym c.line_fault.ensures ∙ c.in-Some-line_fault.is)
    (first_fault (lines c.args.file.now) c.loop-line.number c.in-Some.line.now c.next.new.self next c.loop-line.invariant.faultless c.in-Some-line_fault.fault (sym c.line_fault.ensures ∙ c.in-Some-line_fault.is))

pub loop-line-preserved : goal.loop-line-preserved
loop-line-preserved c =
    let next = next_of (lines c.args.file.now) c.loop-line.number c.in-Some.line.now c.next.new.self c.loop-line.invariant.few (sym c.loop-line.invariant.left ∙ c.in-Some.ensures.steps) in
    record {
      left = sym next.behind;
      few = next.few;
      faultless = no_fault (lines c.args.file.now) c.loop-line.number c.in-Some.line.now c.next.new.self next c.loop-line.invariant.faultless (sym c.line_fault.ensures ∙ c.in_default.is);
    }

pub returns-clause-ok : goal.returns-clause-ok
returns-clause-ok c =
    all_faultless (lines c.args.file.now) c.loop-line.number
    (at_end (lines c.args.file.now) c.loop-line.number c.loop-line.invariant.few (sym c.loop-line.invariant.left ∙ c.in-None.ensures.steps.0)) c.loop-line.invariant.faultless
