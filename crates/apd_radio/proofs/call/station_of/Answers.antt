use Rattle.std.proofs.Common.{ap, ◌∙◌, arith}
use Rattle.apd_base.specs.Addr.{address_of}
use Rattle.apd_base.specs.Text.{decimal_number}
use Rattle.apd_base.proofs.AddrText.{address_length}
use Rattle.apd_base.proofs.Cases.{none_is_some}
use Rattle.apd_radio.proofs.Parts.{first_is, digits_are, longer, blank_at}
use Rattle.apd_radio.proofs.call.station_of.Goals as goal
use Rattle.apd_radio.proofs.call.station_of.Goals.{then-text-le-TEXT_LENGTH-via-then-text-le-TEXT_LENGTH, then-text-le-TEXT_LENGTH-via-else-text-le-TEXT_LENGTH+then-text-ne32}

pub returns-in_default-clause-none : goal.returns-in_default-clause-none
returns-in_default-clause-none c addr aid (first, digits, e, t, d) =
    none_is_some addr (c.in_default.ensures ∙ ap address_of (first_is c.args.text.now first digits e (address_length first addr t)) ∙ t)

pub returns-in_default-decimal_u16-clause-none : goal.returns-in_default-decimal_u16-clause-none
returns-in_default-decimal_u16-clause-none c addr aid (first, digits, e, t, d) =
    none_is_some aid (c.in_default-decimal_u16.ensures ∙ ap (decimal_number 5 65535) (digits_are c.args.text.now first digits e (address_length first addr t)) ∙ d)

pub returns-then-text-le-TEXT_LENGTH-clause-none : goal.returns-then-text-le-TEXT_LENGTH-clause-none
returns-then-text-le-TEXT_LENGTH-clause-none c addr aid (first, digits, e, t, d) =
    let long = longer c.args.text.now first digits e (address_length first addr t) in
    elim c.then-text-le-TEXT_LENGTH.branch [
      | then-text-le-TEXT_LENGTH-via-then-text-le-TEXT_LENGTH w ↦ absurd (omega (arith, w.if-text-le-TEXT_LENGTH.true))
      | then-text-le-TEXT_LENGTH-via-else-text-le-TEXT_LENGTH+then-text-ne32 w ↦ absurd (w.if-text-ne32.true (blank_at c.args.text.now first digits e (address_length first addr t)))
    ]
