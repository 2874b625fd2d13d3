use Rattle.std.proofs.Common.{sym, ap, ◌∙◌}
use Rattle.std.specs.FinMap as map
use Rattle.apd_base.specs.Addr.{addr_cmp}
use Rattle.apd_base.proofs.RowsMaps.{valued}
use Rattle.apd_radio.proofs.identifiers.Identifiers.get.Goals as goal

pub returns : goal.returns
returns c =
    c.copied.ensures ∙ valued addr_cmp c.args.addr c.self.inside.rows.items _ c.deref.ensures.value c.self.invariant _ c.value.ensures
    ∙ sym (map.get-from_sorted addr_cmp c.self.inside.rows.items c.args.addr c.self.invariant) ∙ ap (λ m. map.get m c.args.addr) c.self.view_is
