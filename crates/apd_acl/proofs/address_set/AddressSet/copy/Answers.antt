use Rattle.std.proofs.Common.{◌≡◌, IfOk, T, sym, ap, subst, ◌∙◌}
use Rattle.std.specs.FinMap.{is_sorted}
use Rattle.std.proofs.lemmas.Iterator.Adapters.{fact_from_collect}
use Rattle.std.proofs.lemmas.Iterator.Consumers.{YieldsList-at, YieldsList-from_copied, YieldsList-from_rest}
use Rattle.std.specs.BTreeSet.{IsFromIterResult}
use Rattle.apd_base.specs.Addr.{addr_cmp}
use Rattle.apd_acl.specs.Keys.{rows_of, set_of}
use Rattle.apd_acl.proofs.Keys.{same_keys}
use Rattle.apd_acl.proofs.address_set.AddressSet.copy.Goals as goal

same : (c : goal.In_ok-collect) → c.in_ok-collect.field-0.keys ≡ c.self.inside.keys.keys
same c =
    let copied = fact_from_collect (IsFromIterResult addr_cmp) c.collect.result c.collect.ensures.ran
    (YieldsList-from_copied (YieldsList-at c.copied.ensures.source (YieldsList-from_rest c.self.inside.keys.keys c.iter.ensures.rest))) in
    same_keys c.self.inside.keys.keys c.self.invariant c.in_ok-collect.field-0 (subst (λ r. IfOk r (IsFromIterResult addr_cmp c.self.inside.keys.keys)) c.in_ok-collect.was copied)

pub invariant_of-result : goal.invariant_of-result
invariant_of-result c = subst (λ keys. T (is_sorted addr_cmp (rows_of keys))) (sym (same c)) c.self.invariant

pub returns : goal.returns
returns c = ap set_of (same c) ∙ c.self.view_is
