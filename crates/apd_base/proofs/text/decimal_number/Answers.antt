use Rattle.std.proofs.Common.{◌≡◌, ◌-◌, slice_index_or, sym, ◌∙◌, arith}
use Rattle.std.specs.Char.{digit_value}
use Rattle.std.proofs.lemmas.Bool.Decides.{nat_tests}
use Rattle.apd_base.proofs.NumberText.{beyond}
use Rattle.apd_base.proofs.text.decimal_number.Goals as goal

pub returns-in_err-checked_mul-clause-value : goal.returns-in_err-checked_mul-clause-value
returns-in_err-checked_mul-clause-value c =
    c.from_residual.ensures
    ∙ sym (beyond c.args.most c.args.greatest c.loop-digit.number c.args.digits.now c.loop-digit.digit-index c.loop-digit-test.true c.loop-digit.invariant.value (omega (arith, c.in_err-checked_mul.ensures, c.ranges.greatest.fits)))

pub returns-in_err-number-clause-value : goal.returns-in_err-number-clause-value
returns-in_err-number-clause-value c =
    let d = slice_index_or c.args.digits.now c.loop-digit.digit-index 0 in
    let digit : digit_value d ≡ d - 48 = grind (arith, nat_tests) in
    c.from_residual-in_err-number.ensures
    ∙ sym (beyond c.args.most c.args.greatest c.loop-digit.number c.args.digits.now c.loop-digit.digit-index c.loop-digit-test.true c.loop-digit.invariant.value (omega (arith, c.in_ok-checked_mul.ensures, c.in_err-number.ensures, c.ranges.greatest.fits)))
