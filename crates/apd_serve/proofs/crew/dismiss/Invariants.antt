use Rattle.std.proofs.Common.{◌≡◌, ◌+◌, length}
use Rattle.std.specs.Vec.Iter.{into_iter_items, into_iter_len}
use Rattle.apd_desk.specs.Counted.{entries_of_seats}
use Rattle.apd_serve.specs.Entries.{entries_of_all}
use Rattle.apd_serve.proofs.crew.dismiss.Given as goal

abbrev pub invariant-loop-worker : goal.invariant-loop-worker
invariant-loop-worker g l =
    (entries_of_seats l.seats.items + entries_of_all (into_iter_items l.worker-iterator) ≡ entries_of_seats l.initial.seats.items + entries_of_all (into_iter_items l.initial.worker-iterator))
    × (into_iter_len l.worker-iterator ≡ length (into_iter_items l.worker-iterator))
