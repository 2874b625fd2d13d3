use Rattle.std.proofs.Common.{sym, ap, ◌∙◌}
use Rattle.apd_core.proofs.Words.{nat_cmp-IsAntisymmetric, nat_cmp_total}
use Rattle.std.specs.FinMap as map
use Rattle.apd_core.proofs.TreeMaps.{get-lookup, inserted, not_there}
use Rattle.apd_core.proofs.remaining.Remaining.insert.Goals as goal

pub returns-clause-ok : goal.returns-clause-ok
returns-clause-ok c =
    inserted nat_cmp_total nat_cmp-IsAntisymmetric c.self.inside.table.entries c.insert.new.self.entries c.args.number c.args.count (λ q. c.in_ok-insert.ensures.updates.0 q)
    ∙ ap (λ m. map.insert m c.args.number c.args.count) c.self.view_is

pub returns-in_err-insert-clause-over : goal.returns-in_err-insert-clause-over
returns-in_err-insert-clause-over c found =
    absurd (not_there _ (sym (ap (λ m. map.get m c.args.number) c.self.view_is) ∙ get-lookup nat_cmp_total c.self.inside.table.entries c.args.number ∙ c.in_err-insert.ensures.absent) found)
