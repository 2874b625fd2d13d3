use Rattle.std.proofs.Common.{◌≡◌, ◌-◌, ℕ, List, [], length, get_or, take, drop, subst, sym, arith, rules}
use Rattle.std.proofs.lemmas.List.{nil_from_length}
use Rattle.apd_record.specs.declared.change.Change.{Change}
use Rattle.apd_journal.proofs.Parsing.{HasRead, reads_more, reads_empty, reads_no_block, opened_rest}
use Rattle.apd_journal.proofs.reader.read_open.Goals as goal

pub returns-in_default-clause-none : goal.returns-in_default-clause-none
returns-in_default-clause-none c =
    let none : c.loop-rest.rest.now ≡ [] = nil_from_length c.loop-rest.rest.now (omega (arith, c.in_default.len_below)) in
    reads_empty c.args.bytes.now c.args.changes.now c.loop-rest.changes (subst (λ (l : List ℕ). HasRead c.args.bytes.now c.args.changes.now l c.loop-rest.changes) none c.loop-rest.invariant)

pub returns-in_default-2-clause-none : goal.returns-in_default-2-clause-none
returns-in_default-2-clause-none c =
    let rest = c.loop-rest.rest.now in
    let gate : get_or rest 0 0 ≡ 1 = search rules in
    let open_rest = opened_rest rest (omega (arith, c.in-len1-up.len_at_least)) gate in
    reads_no_block c.args.bytes.now c.args.changes.now (take (length rest - 1) (drop 1 rest)) c.loop-rest.changes
    (subst (λ (l : List ℕ). HasRead c.args.bytes.now c.args.changes.now l c.loop-rest.changes) open_rest c.loop-rest.invariant)
    (rw c.in_default-2.is at c.in_ok-group.ensures.none)

pub loop-rest-preserved : goal.loop-rest-preserved
loop-rest-preserved c =
    let rest = c.loop-rest.rest.now in
    let gate : get_or rest 0 0 ≡ 1 = search rules in
    let open_rest = opened_rest rest (omega (arith, c.in-len1-up.len_at_least)) gate in
    subst (λ (l : List Change). HasRead c.args.bytes.now c.args.changes.now c.in-Some.next.now l) (sym c.in_ok-append.ensures.ok)
    (reads_more c.args.bytes.now c.args.changes.now (take (length rest - 1) (drop 1 rest)) c.loop-rest.changes c.in-Some.group c.in-Some.next.now
    (subst (λ (l : List ℕ). HasRead c.args.bytes.now c.args.changes.now l c.loop-rest.changes) open_rest c.loop-rest.invariant)
    (rw c.in-Some.is at c.in_ok-group.ensures.some))
