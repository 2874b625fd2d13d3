use Rattle.std.proofs.Common.{sym, ap, ◌∙◌}
use Rattle.std.specs.FinMap as map
use Rattle.apd_base.specs.Addr.{addr_cmp}
use Rattle.apd_radio.proofs.identifiers.Identifiers.rows.Goals as goal

pub returns : goal.returns
returns c = c.deref.ensures.value ∙ sym (map.entries-from_sorted addr_cmp c.self.inside.rows.items c.self.invariant) ∙ ap map.entries c.self.view_is
