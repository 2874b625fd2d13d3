use Rattle.std.proofs.Common.{sym, ap, ◌∙◌}
use Rattle.std.specs.Cmp.{nat_cmp_total}
use Rattle.std.specs.FinMap as map
use Rattle.apd_core.proofs.TreeMaps.{get-lookup}
use Rattle.apd_core.proofs.remaining.Remaining.get.Goals as goal

pub returns : goal.returns
returns c =
    c.copied.ensures ∙ c.get.ensures.value ∙ sym (get-lookup nat_cmp_total c.self.inside.table.entries c.args.number) ∙ ap (λ m. map.get m c.args.number) c.self.view_is
