use Rattle.std.proofs.Common.{◌≡◌, ◌+◌, length}
use Rattle.apd_desk.specs.Counted.{entries_of_seats}
use Rattle.apd_desk.proofs.locked.merge_shares.Given as goal

abbrev pub invariant-loop-seat : goal.invariant-loop-seat
invariant-loop-seat g l = (l.all.parts ≡ l.initial.all.parts + length l.yielded) × (l.all.amount ≡ l.initial.all.amount + entries_of_seats l.yielded)
