use Rattle.std.proofs.Common.{ap, ◌∙◌}
use Rattle.std.specs.FinMap as map
use Rattle.apd_base.proofs.Cases.{differ}
use Rattle.apd_base.specs.Sets.{contains}
use Rattle.apd_acl.proofs.Keys.{rows_sorted, set_added, has_key}
use Rattle.apd_acl.proofs.address_set.AddressSet.add.Goals as goal

pub invariant_of-self-2 : goal.invariant_of-self-2
invariant_of-self-2 c = rows_sorted c.insert.new.self.keys c.in_ok-insert.ensures.ordered

pub returns-clause-ok : goal.returns-clause-ok
returns-clause-ok c =
    let keys = c.self.inside.keys.keys in
    let new = c.insert.new.self.keys in
    set_added keys new c.self.invariant (rows_sorted new c.in_ok-insert.ensures.ordered) c.args.addr (λ q. c.in_ok-insert.ensures.updates.0 q) ∙ ap (λ s. map.insert s c.args.addr tt) c.self.view_is

-- memory is wanting only where the address is not there
pub returns-in_err-insert-clause-over : goal.returns-in_err-insert-clause-over
returns-in_err-insert-clause-over c found =
    differ _ c.in_err-insert.ensures.absent (has_key c.self.inside.keys.keys c.self.invariant c.args.addr ∙ ap (λ s. contains s c.args.addr) c.self.view_is ∙ found)
