use Rattle.std.proofs.Common.{sym, ◌∙◌}
use Rattle.std.specs.FinMap.{len}
use Rattle.apd_acl.specs.Lists.{list_of}
use Rattle.apd_base.specs.declared.station.Which.TheVariants.{Accept, Deny}
use Rattle.apd_maintenance.proofs.Printing.{line_is}
use Rattle.apd_maintenance.proofs.checking.line_of.Goals as goal

pub returns : goal.returns
returns c =
    line_is (λ line. line.items) c.line_with.result c.args.table.now c.args.bssid c.in-Some.policy c.count.result (len (list_of c.in-Some-lists.lists.now Accept)) (len (list_of c.in-Some-lists.lists.now Deny))
    (sym c.policy.ensures ∙ c.in-Some.is) c.count.ensures (c.in-Some-lists.ensures.counts Accept) (c.in-Some-lists.ensures.counts Deny) c.line_with.ensures
