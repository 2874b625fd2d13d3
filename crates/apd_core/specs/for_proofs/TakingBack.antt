-- The last entry's outs, as they are added and taken back where memory was refused (own).
use Rattle.std.specs.Prelude.{ℕ, ◌≤◌, map, filter, nat_lt}
use Rattle.std.specs.List.{AllByRecursion}
use Rattle.std.specs.FinMap as maps
use Rattle.apd_core.specs.Held.{Queue, HeldOuts, IsInOrder}

-- of a queue the outs of entries before a number
abbrev pub before : ℕ → Queue → Queue
before number queue = filter (λ x. nat_lt x.0 number) queue

-- the last entry is taken back
abbrev pub without : ℕ → HeldOuts → HeldOuts
without number held = record held { queues = map (before number) held.queues; left = maps.remove held.left number }

-- an out of the entry may stand behind those of the queue
abbrev pub MayFollow : ℕ → Queue → Type 0
MayFollow number queue = IsInOrder queue × AllByRecursion (λ x. x.0 ≤ number) queue
