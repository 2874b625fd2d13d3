use Rattle.std.proofs.Common.{◌≡◌, ◌<◌, ◌^◌, drop}
use Rattle.std.specs.Str.{all_ascii_digits}
use Rattle.std.specs.Str.Parse.{digits_value, digits_value_after}
use Rattle.apd_base.proofs.text.decimal_number.Given as goal

-- what is left to read decides as the whole does
abbrev pub invariant-loop-digit : goal.invariant-loop-digit
invariant-loop-digit l = record {
  digits : all_ascii_digits l.digits ≡ all_ascii_digits (drop l.digit-index l.digits);
  value : digits_value 10 l.digits ≡ digits_value_after 10 l.number (drop l.digit-index l.digits);
  small : l.number < 2 ^ 64;
}
