use Rattle.std.proofs.Common.{◌≡◌, ◌-◌, length, get_or, take, drop, arith, rules}
use Rattle.apd_journal.proofs.Parsing.{opened_rest}
use Rattle.apd_journal.proofs.Halves.{epoch_is}
use Rattle.apd_journal.proofs.reader.split_epoch.Goals as goal

pub returns-clause-some : goal.returns-clause-some
returns-clause-some c =
    let half = c.args.half.now in
    let gate : get_or half 0 0 ≡ 1 = search rules in
    let open_half = opened_rest half (omega (arith, c.in-1.len_at_least)) gate in
    epoch_is half (take (length half - 1) (drop 1 half)) c.in_ok-front.front.now c.in_ok-front.rest.now c.from_le_bytes.result (λ i. omega (arith, c.type_inv.half i)) open_half
    c.in_ok-front.ensures.cases.0 c.in_ok-front.ensures.cases.1 (omega (arith, c.in_ok-front.ensures.cases.2)) c.from_le_bytes.ensures
