use Rattle.std.proofs.Common.{◌≡◌, ◌<◌, ◌^◌, drop}
use Rattle.std.specs.Str.Parse.{digits_value, digits_value_after}
use Rattle.grammar.specs.Digits.{AreDigits}
use Rattle.expr_reader.proofs.scanning.number_token.Given as goal

abbrev pub invariant-loop-digit : goal.invariant-loop-digit
invariant-loop-digit l = record {
  fits : l.value < 2 ^ 64;
  digits : AreDigits (drop l.digit-index l.digits);
  same : digits_value_after 10 l.value (drop l.digit-index l.digits) ≡ digits_value 10 l.digits;
}
