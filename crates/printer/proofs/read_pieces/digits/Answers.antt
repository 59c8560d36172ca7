use Rattle.std.proofs.Common.{sym, ◌∙◌, arith}
use Rattle.printer.proofs.ReadNumbers.{too_large}
use Rattle.printer.proofs.read_pieces.digits.Goals as goal

pub returns-then-value-most_before : goal.returns-then-value-most_before
returns-then-value-most_before c =
    too_large c.args.limit c.loop-next.value c.args.bytes.now c.loop-next.next _ c.loop-next-test.true
    (sym c.is_ascii_digit.ensures.value ∙ c.if-is_ascii_digit.true)
    (omega (arith, c.if-value-most_before.true)) c.loop-next.invariant.same

pub returns-then-digit-limit : goal.returns-then-digit-limit
returns-then-digit-limit c =
    too_large c.args.limit c.loop-next.value c.args.bytes.now c.loop-next.next _ c.loop-next-test.true
    (sym c.is_ascii_digit.ensures.value ∙ c.if-is_ascii_digit.true)
    (omega (arith, c.from-digit.ensures, c.if-value-most_before.false, c.if-digit-limit.true))
    c.loop-next.invariant.same
