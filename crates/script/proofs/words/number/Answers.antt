use Rattle.std.proofs.Common.{◌≡◌, ◌∙◌, ◌+◌, ◌-◌, ◌*◌, ◌<◌, ◌^◌, sym, ap, true, get_or, length, min, take, arith}
use Rattle.std.proofs.lemmas.Grind.{common_steps}
use Rattle.std.specs.Char.{is_ascii_digit}
use Rattle.script.specs.Numbers.{number_of}
use Rattle.script.proofs.NumberLemmas.{number_of-more, digits-more}
use Rattle.script.proofs.words.number.Goals as goal

pub loop-digit-preserved : goal.loop-digit-preserved
loop-digit-preserved c =
    let word = c.args.word.now in
    let i = c.loop-digit.digit-index in
    let within : i < length word = omega arith in
    let digit : is_ascii_digit (get_or word i 0) ≡ true = grind (arith, common_steps) in
    let value : c.saturating_add-value.result ≡ min (number_of (take i word) * 10 + (get_or word i 0 - 48))
    (2 ^ 128 - 1) = omega arith in
    record {
      digits = digits-more word i within c.loop-digit.invariant.digits digit;
      value = value ∙ ap (λ n. min n (2 ^ 128 - 1)) (sym (number_of-more word i (i + 1) (omega arith) within digit));
    }
