use Rattle.std.proofs.Common.{◌≡◌, length, drop, IsTrue}
use Rattle.apd_disk.specs.Mem.{all_fit, torn_writes}
use Rattle.apd_disk.proofs.mem.replay.Given as goal

abbrev pub invariant-loop-call : goal.invariant-loop-call
invariant-loop-call l =
    (torn_writes l.torn l.image.items (drop l.call-index l.calls) ≡ torn_writes l.torn l.fn.image.items l.calls)
    × (length l.image.items ≡ length l.fn.image.items)
    × IsTrue (all_fit (length l.fn.image.items) (drop l.call-index l.calls))
