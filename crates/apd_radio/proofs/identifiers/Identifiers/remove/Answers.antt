use Rattle.std.proofs.Common.{sym, ap, ◌∙◌}
use Rattle.std.specs.FinMap as map
use Rattle.apd_base.proofs.AddrLemmas.{addr_total, addr_exact}
use Rattle.apd_base.proofs.RowsMaps.{sorted_remove_at, remove-from_sorted}
use Rattle.apd_radio.proofs.identifiers.Identifiers.remove.Goals as goal

pub invariant_of-self : goal.invariant_of-self
invariant_of-self c = rw (c.remove.ensures c.self.invariant) (sorted_remove_at addr_total addr_exact c.args.addr c.self.inside.rows.items c.self.invariant)

pub returns : goal.returns
returns c =
    ap map.from_sorted (c.remove.ensures c.self.invariant) ∙ sym (remove-from_sorted addr_total addr_exact c.args.addr c.self.inside.rows.items c.self.invariant) ∙ ap (λ m. map.remove m c.args.addr) c.self.view_is
