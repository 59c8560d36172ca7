use Rattle.std.proofs.Common.{◌≡◌, ◌≤◌, ◌∙◌, length, true, arith}
use Rattle.std.specs.Str.{all_ascii_digits}
use Rattle.words.proofs.Numbers.{digits_read, digits_refused, digits_same, no_number, number_of_digits}
use Rattle.words.proofs.number.number_within.Goals as goal

pub returns-then-word-most_digits-clause-number : goal.returns-then-word-most_digits-clause-number
returns-then-word-most_digits-clause-number c =
    no_number c.args.most_digits c.args.low c.args.high c.args.word.now (λ is. omega (arith, is.at_most))

pub returns-then-not-is_digits-clause-number : goal.returns-then-not-is_digits-clause-number
returns-then-not-is_digits-clause-number c =
    no_number c.args.most_digits c.args.low c.args.high c.args.word.now
    (λ is. let same = digits_same c.args.word.now in cc (same, is.digits))

pub returns-in-Ok-clause-number : goal.returns-in-Ok-clause-number
returns-in-Ok-clause-number c =
    let digits : all_ascii_digits c.args.word.now ≡ true = let same = digits_same c.args.word.now in cc in
    let few : length c.args.word.now ≤ c.args.most_digits = omega arith in
    let read = digits_read c.args.word.now c.in-Ok.number c.in-Ok.ensures.value.0 digits in
    c.within.ensures.number
    ∙ number_of_digits c.args.most_digits c.args.low c.args.high c.args.word.now c.in-Ok.number digits read.0 few read.1

pub returns-in-Err-clause-number : goal.returns-in-Err-clause-number
returns-in-Err-clause-number c =
    let digits : all_ascii_digits c.args.word.now ≡ true = let same = digits_same c.args.word.now in cc in
    no_number c.args.most_digits c.args.low c.args.high c.args.word.now
    (λ is. digits_refused c.args.word.now c.in-Err.ensures.value.0 digits is.some (omega (
      arith,
      is.to,
    )))
