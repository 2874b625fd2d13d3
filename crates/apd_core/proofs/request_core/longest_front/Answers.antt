use Rattle.std.proofs.Common.{◌≡◌, ◌+◌, ◌++◌, [], length, take, drop, sym, ap, subst, ◌∙◌, arith}
use Rattle.apd_core.proofs.Words.{AreChanges, IsChange, IsLongestFront, all_both, changes_of, entries_of, records_length-append, records_of}
use Rattle.apd_core.proofs.Taking.{next_entry, longest_stop, longest_end, all_taken, none_left}
use Rattle.apd_core.proofs.request_core.longest_front.Goals as goal

pub returns-then-entry-room-clause-longest : goal.returns-then-entry-room-clause-longest
returns-then-entry-room-clause-longest c =
    let i = c.loop-count.invariant in
    longest_stop c.args.entries.now.items c.loop-count.count c.loop-count.room c.in-Some.entry.now _ c.loop-count.changes.items c.requires
    (sym c.in-Some.ensures.steps ∙ i.left) i.changes i.room (omega (arith, c.if-entry-room.true))

pub returns-then-entry-room-clause-group : goal.returns-then-entry-room-clause-group
returns-then-entry-room-clause-group c = let i = c.loop-count.invariant in (i.are, omega (arith, i.room))

pub loop-count-preserved : goal.loop-count-preserved
loop-count-preserved c =
    let i = c.loop-count.invariant in
    let e = c.in-Some.entry.now in
    let next = next_entry c.args.entries.now.items c.loop-count.count e _ (sym c.in-Some.ensures.steps ∙ i.left) in
    let one = next.measured c.requires in
    let fewer = ap length c.in-Some.ensures.steps in
    let items : c.extend_from_slice.new.self.items ≡ c.loop-count.changes.items ++ e.changes = c.in_ok-extend_from_slice.ensures.items ∙ ap (λ cs. c.loop-count.changes.items ++ cs) c.as_slice.ensures in
    let longer : length (records_of c.extend_from_slice.new.self.items) ≡ length (records_of c.loop-count.changes.items) + length (records_of e.changes) =
    ap (λ cs. length (records_of cs)) items ∙ records_length-append c.loop-count.changes.items e.changes in
    let length_is = one.length_is in
    let there = next.there in
    record {
      next = tt;
      finite = tt;
      counter = omega (arith, i.counter, fewer);
      left = next.left;
      there = omega (arith, there);
      changes = items ∙ ap (λ cs. cs ++ e.changes) i.changes ∙ sym next.changes;
      room = omega (arith, i.room, longer, length_is, c.if-entry-room.false);
      are = subst AreChanges (sym items) (all_both IsChange c.loop-count.changes.items e.changes i.are one.changes_are);
    }

pub returns-clause-longest : goal.returns-clause-longest
returns-clause-longest c =
    let i = c.loop-count.invariant in
    let es = c.args.entries.now.items in
    let end : [] ≡ drop c.loop-count.count es = sym (none_left _ c.in-None.ensures.steps.0) ∙ i.left in
    let all = all_taken es c.loop-count.count end in
    let same : c.loop-count.count ≡ c.len.result = omega (arith, all, i.there, c.len.ensures, c.args.entries.now.ok) in
    subst (IsLongestFront (entries_of es)) same (longest_end es c.loop-count.count c.loop-count.room c.loop-count.changes.items end i.there i.changes i.room)

pub returns-clause-changes : goal.returns-clause-changes
returns-clause-changes c =
    let i = c.loop-count.invariant in
    let es = c.args.entries.now.items in
    let end : [] ≡ drop c.loop-count.count es = sym (none_left _ c.in-None.ensures.steps.0) ∙ i.left in
    let all = all_taken es c.loop-count.count end in
    let same : c.loop-count.count ≡ c.len.result = omega (arith, all, i.there, c.len.ensures, c.args.entries.now.ok) in
    i.changes ∙ ap (λ n. changes_of (take n (entries_of es))) same

pub returns-clause-group : goal.returns-clause-group
returns-clause-group c = let i = c.loop-count.invariant in (i.are, omega (arith, i.room))
