use Rattle.std.proofs.Common.{◌+◌, ◌<◌, ◌≡◌, ◌≤◌, ◌^◌, ◌++◌, length, take, drop}
use Rattle.apd_core.proofs.Words.{AreChanges, MAX_GROUP, changes_of, entries_of, records_of}
use Rattle.apd_core.proofs.request_core.longest_front.Given as goal

-- what is left, the changes of those before it, and the room that they leave
abbrev pub invariant-loop-count : goal.invariant-loop-count
invariant-loop-count l = record {
  next : (goal.iterator-loop-count).can_next l.entry-iterator;
  finite : (goal.iterator-loop-count).is_finite l.entry-iterator;
  counter : l.count + (goal.iterator-loop-count).remaining l.entry-iterator < 2 ^ 64;
  left : l.entry-iterator.head.now ++ l.entry-iterator.wrapped.now ≡ drop l.count l.entries.items;
  there : l.count ≤ length l.entries.items;
  changes : l.changes.items ≡ changes_of (take l.count (entries_of l.entries.items));
  room : l.room + length (records_of l.changes.items) ≡ MAX_GROUP;
  are : AreChanges l.changes.items;
}
