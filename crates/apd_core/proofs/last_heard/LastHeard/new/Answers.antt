use Rattle.std.proofs.Common.{length, ap, ◌∙◌}
use Rattle.std.specs.FinMap as map
use Rattle.apd_base.specs.Addr.{station_cmp}
use Rattle.apd_core.proofs.last_heard.LastHeard.new.Goals as goal

pub invariant_of-result : goal.invariant_of-result
invariant_of-result c = rw c.new.ensures.empty tt

pub returns : goal.returns
returns c = map.empty_of_len _ (map.len-entries _ ∙ ap length (map.entries-from_sorted station_cmp c.new.result.entries (rw c.new.ensures.empty tt) ∙ c.new.ensures.empty))
