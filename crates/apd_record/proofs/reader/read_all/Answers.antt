use Rattle.std.proofs.Common.{rules, ◌≡◌, List, [], ◌++◌, length, ap, subst, sym, ◌∙◌}
use Rattle.std.proofs.lemmas.Bool.{eqb-false}
use Rattle.apd_record.specs.declared.change.Change.{Change}
use Rattle.apd_record.specs.Ranges.{AreChanges}
use Rattle.apd_record.specs.Record.{records_of}
use Rattle.apd_record.proofs.Progress.{AreChanges-push, reads_on}
use Rattle.apd_record.proofs.Unique.{unread}
use Rattle.apd_record.proofs.reader.read_all.Goals as goal

pub returns-in_default-clause-none : goal.returns-in_default-clause-none
returns-in_default-clause-none c =
    let some : c.loop-rest.rest.now ≡ [] → ⊥ = λ none. eqb-false (length c.loop-rest.rest.now) 0 (sym c.is_empty.ensures ∙ c.loop-rest-test.true) (ap length none) in
    let none : (ys : List Change) → AreChanges ys → records_of ys ≡ c.args.bytes.now → ⊥ =
    λ ys are e. unread c.loop-rest.changes.items ys c.loop-rest.rest.now c.loop-rest.invariant.range are some c.in_default.ensures.none (e ∙ c.loop-rest.invariant.all) in
    search (rules, none)

pub loop-rest-preserved : goal.loop-rest-preserved
loop-rest-preserved c = record {
  all = reads_on c.args.bytes.now c.loop-rest.changes.items c.loop-rest.rest.now c.in-Some.change c.in-Some.after.now c.loop-rest.invariant.all c.in-Some.ensures.some
      ∙ ap (λ xs. records_of xs ++ c.in-Some.after.now) (sym c.in_ok-push.ensures.items);
  range = subst AreChanges (sym c.in_ok-push.ensures.items) (AreChanges-push c.loop-rest.changes.items c.in-Some.change c.loop-rest.invariant.range c.in-Some.ensures.range);
}
