use Rattle.std.proofs.Common.{◌≡◌, ℕ, ◌*◌, ◌<◌, true}
use Rattle.apd_table.specs.for_proofs.Members.{is_set}
use Rattle.apd_table.proofs.members.Members.free_above.Given as goal

-- the places of the words so far are set
abbrev pub invariant-loop-w : goal.invariant-loop-w
invariant-loop-w l = (j : ℕ) → l.last < j → j < 64 * l.w → is_set l.self.words j ≡ true
