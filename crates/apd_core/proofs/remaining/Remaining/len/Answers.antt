use Rattle.std.proofs.Common.{sym, ap, ◌∙◌}
use Rattle.std.specs.Cmp.{nat_cmp_total}
use Rattle.std.specs.FinMap as map
use Rattle.apd_core.proofs.TreeMaps.{len-tree}
use Rattle.apd_core.proofs.remaining.Remaining.len.Goals as goal

pub returns : goal.returns
returns c = c.len.ensures.len ∙ sym (len-tree nat_cmp_total c.self.inside.table.entries c.len.ensures.ordered) ∙ ap map.len c.self.view_is
