use Rattle.std.proofs.Common.{◌≡◌, ◌∙◌, ◌≤◌, ◌^◌, ◌+◌, ◌-◌, ◌*◌, arith, drop, drop-cons, get_or, suc, subst, sym, ap}
use Rattle.std.proofs.Common.{◌∷◌}
use Rattle.std.specs.Char.{digit_value}
use Rattle.std.specs.Str.Parse.{digits_value_after}
use Rattle.grammar.specs.Digits.{AreDigits}
use Rattle.grammar.proofs.Lexed.{too_large, digit_value-digit}
use Rattle.expr_reader.proofs.scanning.number_token.Goals as goal

pub returns-then-value-more : goal.returns-then-value-more
returns-then-value-more c =
    let ds = c.args.digits.now in
    let i = c.loop-digit.digit-index in
    let cut : drop i ds ≡ get_or ds i 0 ∷ drop (suc i) ds = drop-cons ds i 0 c.loop-digit-test.true in
    let digits = subst AreDigits cut c.loop-digit.invariant.digits in
    let low : 48 ≤ get_or ds i 0 = (digit_value-digit _ digits.0).0 in
    let value : digit_value (get_or ds i 0) ≡ get_or ds i 0 - 48 = (digit_value-digit _ digits.0).1 in
    let big : 2 ^ 64 ≤ c.loop-digit.value * 10 + digit_value (get_or ds i 0) = omega arith in
    too_large c.loop-digit.value (get_or ds i 0) (drop (suc i) ds) ds big
    (ap (digits_value_after 10 c.loop-digit.value) (sym cut) ∙ c.loop-digit.invariant.same)
