use Rattle.std.proofs.Common.{ap, ◌∙◌}
use Rattle.apd_core.proofs.Words.{nat_cmp-IsAntisymmetric, nat_cmp_total}
use Rattle.std.specs.FinMap as map
use Rattle.apd_core.proofs.TreeMaps.{removed}
use Rattle.apd_core.proofs.remaining.Remaining.remove.Goals as goal

pub returns : goal.returns
returns c =
    removed nat_cmp_total nat_cmp-IsAntisymmetric c.self.inside.table.entries c.remove.new.self.entries c.args.number (λ q. c.remove.ensures.updates.0 q)
    ∙ ap (λ m. map.remove m c.args.number) c.self.view_is
