use Rattle.std.proofs.Common.{◌≡◌, sym, ◌∙◌, ap, rules, arith}
use Rattle.apd_frame.specs.Contents.{element}
use Rattle.apd_frame.specs.Elements.{well_formed}
use Rattle.apd_frame.proofs.ElementLemmas.{all_bytes, tells_well_formed, well_formed-behind}
use Rattle.apd_frame.proofs.element_list.well_formed.Goals as goal

pub loop-behind-preserved : goal.loop-behind-preserved
loop-behind-preserved c =
    sym (well_formed-behind (element c.in-Some.field-0-0) c.in-Some.behind.now) ∙ sym (ap well_formed c.in-Some.ensures.bytes) ∙ c.loop-behind.invariant

pub returns-clause-elements : goal.returns-clause-elements
returns-clause-elements c =
    let computed : c.is_empty.result ≡ well_formed c.args.bytes.now = search rules in
    tells_well_formed c.args.bytes.now c.is_empty.result (all_bytes c.args.bytes.now (λ i. omega (arith, c.type_inv.bytes i))) computed
