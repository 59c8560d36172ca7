-- The line of the precision, as it is read.
--     numeral_in bytes      the number of any length without leading zeros, 0 among them, that the bytes begin with,
--         and what stands behind it
--     ends_line rest      a line ends here, with its newline or with the text
--     precision_in text      the number D, however long, where line 1, with or without its newline, is `precision D`,
--         and what stands behind that: the newline first, or nothing
--     told_precision p      a number greater than the greatest u32 is told as that
use Rattle.std.specs.Prelude.{ℕ, ◌-◌, ◌^◌, ◌==◌, min, List, [], ◌∷◌, Option, Some, None, codes, if◌then◌else◌}
use Rattle.std.specs.Prelude.{Bool, true}
use Rattle.std.specs.Char.{is_ascii_digit}
use Rattle.printer.specs.ReadForms.{◌>>=◌, strip, digits_from}

unfoldable pub numeral_in : List ℕ → Option (ℕ × List ℕ)
numeral_in [] = None
numeral_in (b ∷ bs) =
    if b == 48 then Some (0, bs) else (if is_ascii_digit b then Some (digits_from 0 (b ∷ bs)) else None)

abbrev pub ends_line : List ℕ → Bool
ends_line [] = true
ends_line (b ∷ bs) = b == 10

unfoldable pub precision_in : List ℕ → Option (ℕ × List ℕ)
precision_in text = do
  digits ← strip (codes "precision ") text
  p ← numeral_in digits
  if ends_line p.1 then Some p else None

abbrev pub told_precision : ℕ × List ℕ → ℕ × List ℕ
told_precision p = (min p.0 (2 ^ 32 - 1), p.1)
