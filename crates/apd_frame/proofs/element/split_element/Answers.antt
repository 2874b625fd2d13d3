use Rattle.apd_frame.proofs.ElementLemmas.{first_by_place}
use Rattle.apd_frame.proofs.element.split_element.Goals as goal

pub returns-clause-first : goal.returns-clause-first
returns-clause-first c =
    let split = c.in_ok-body.ensures.cases in
    first_by_place c.args.bytes.now c.in_ok-body.body.now c.in_ok-body.behind.now c.in-len2-up.len_at_least split.0 split.1 split.2
