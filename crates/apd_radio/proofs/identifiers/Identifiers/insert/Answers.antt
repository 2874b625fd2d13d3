use Rattle.apd_base.proofs.AddrLemmas.{addr_total, addr_exact}
use Rattle.apd_base.proofs.RowsMaps.{put_sorted, put_means, found_place}
use Rattle.apd_radio.proofs.identifiers.Identifiers.insert.Goals as goal

pub invariant_of-self : goal.invariant_of-self
invariant_of-self c = put_sorted addr_total addr_exact c.args.addr c.args.aid c.self.inside.rows.items c.put.new.rows.items c.self.invariant c.put.result c.put.ensures.ok c.put.ensures.err

pub returns-clause-ok : goal.returns-clause-ok
returns-clause-ok c = rw (← c.self.view_is) (put_means addr_total addr_exact c.args.addr c.args.aid c.self.inside.rows.items c.put.new.rows.items c.self.invariant c.put.result c.put.ensures.ok)

pub returns-clause-over : goal.returns-clause-over
returns-clause-over c found = c.put.ensures.over c.self.invariant (found_place addr_total addr_exact c.args.addr c.self.inside.rows.items c.self.invariant (rw c.self.view_is found))
