-- How the terms of a block are read: functions of the bytes.
--     Gives view answer o      what a function answered, seen by view, is o
--     strip text bytes      what stands behind the text, with which the bytes begin; None where they don't
--     digits_from n bytes      the number n with the digits that the bytes begin with, and what stands behind these
--     number_in limit bytes      a number from 1 up to the limit without leading zeros, and what stands behind it
--     power_in limit name bytes      the power of the variable with this name that the bytes begin with, 0 where
--         they don't, and what stands behind it; None where a power is written in no lawful way
--     powers_in limit names bytes      the powers of the variables, in order, and what stands behind them
--     term_in most limit names bytes      a coefficient up to `most` with powers up to the limit, and what stands
--         behind them
--     head_in number value times bytes, mark_in j bytes      what stands behind the first line of a factor, and
--         behind the mark of Y^j
--     AreApart names      each name has letters, digits and _ alone, and no two are equal
--     IsNamed names powers      the powers past the names are 0
--     ends bytes      no term goes on with the first byte
use Rattle.std.specs.Prelude.{◌≡◌, ℕ, ◌+◌, ◌-◌, ◌*◌, ◌==◌, ◌&&◌, nat_le, not, Bool, true, if◌then◌else◌}
use Rattle.std.specs.Prelude.{List, [], ◌∷◌, Option, Some, None, codes, decimal}
use Rattle.std.specs.Option.{option_map}
use Rattle.std.specs.List.{list_all}
use Rattle.std.specs.Char.{is_ascii_digit}
use Rattle.ps_model.specs.Names.{is_name_byte}

infixl 10 ◌>>=◌
abbrev pub ◌>>=◌ : {A B : Type 0} → Option A → (A → Option B) → Option B
None >>= f = None
(Some x) >>= f = f x

abbrev pub Gives : {A B : Type 0} → (A → B) → Option A → Option B → Type 0
Gives view None o = o ≡ None
Gives view (Some x) o = o ≡ Some (view x)

abbrev pub strip : List ℕ → List ℕ → Option (List ℕ)
strip [] bytes = Some bytes
strip (t ∷ ts) [] = None
strip (t ∷ ts) (b ∷ bs) = if b == t then strip ts bs else None

abbrev pub digits_from : ℕ → List ℕ → ℕ × List ℕ
digits_from n [] = (n, [])
digits_from n (b ∷ bs) = if is_ascii_digit b then digits_from (10 * n + (b - 48)) bs else (n, b ∷ bs)

abbrev pub up_to : ℕ → ℕ × List ℕ → Option (ℕ × List ℕ)
up_to limit p = if nat_le p.0 limit then Some p else None

unfoldable pub number_in : ℕ → List ℕ → Option (ℕ × List ℕ)
number_in limit [] = None
number_in limit (b ∷ bs) =
    if is_ascii_digit b && not (b == 48) then up_to limit (digits_from 0 (b ∷ bs)) else None

-- a power from 2 on, behind its mark
unfoldable pub exponent_in : ℕ → List ℕ → Option (ℕ × List ℕ)
exponent_in limit bytes = do
  p ← number_in limit bytes
  if nat_le 2 p.0 then Some p else None

-- the power of a name behind which `rest` stands
abbrev pub behind_name : ℕ → List ℕ → List ℕ → Option (ℕ × List ℕ)
behind_name limit bytes [] = Some (1, [])
behind_name limit bytes (b ∷ bs) =
    if is_name_byte b then Some (0, bytes) else (if b == 94 then exponent_in limit bs else Some (1, b ∷ bs))

abbrev pub named : ℕ → List ℕ → Option (List ℕ) → Option (ℕ × List ℕ)
named limit bytes None = Some (0, bytes)
named limit bytes (Some rest) = behind_name limit bytes rest

unfoldable pub power_in : ℕ → List ℕ → List ℕ → Option (ℕ × List ℕ)
power_in limit name bytes = named limit bytes (strip (42 ∷ name) bytes)

unfoldable pub powers_in : ℕ → List (List ℕ) → List ℕ → Option (List ℕ × List ℕ)
powers_in limit [] bytes = Some ([], bytes)
powers_in limit (name ∷ names) bytes = do
  p ← power_in limit name bytes
  option_map (λ q. (p.0 ∷ q.0, q.1)) (powers_in limit names p.1)

unfoldable pub term_in : ℕ → ℕ → List (List ℕ) → List ℕ → Option ((ℕ × List ℕ) × List ℕ)
term_in most limit names bytes = do
  c ← number_in most bytes
  option_map (λ q. ((c.0, q.0), q.1)) (powers_in limit names c.1)

-- what stands behind the first line of a factor, and behind the beginning of a line of terms
unfoldable pub head_in : ℕ → ℕ → ℕ → List ℕ → Option (List ℕ)
head_in number value times bytes = do
  a ← strip (codes "factor ") bytes
  b ← strip (decimal number) a
  c ← strip (codes " root ") b
  d ← strip (decimal value) c
  e ← strip (codes " times ") d
  f ← strip (decimal times) e
  strip (codes "\n") f

unfoldable pub mark_in : ℕ → List ℕ → Option (List ℕ)
mark_in j bytes = do
  a ← strip (codes "Y^") bytes
  b ← strip (decimal j) a
  strip (codes ": ") b

abbrev pub IsNone : List ℕ → List (List ℕ) → Type 0
IsNone name [] = Unit {0}
IsNone name (other ∷ names) = (name ≡ other → ⊥) × IsNone name names

abbrev pub AreApart : List (List ℕ) → Type 0
AreApart [] = Unit {0}
AreApart (name ∷ names) = (list_all is_name_byte name ≡ true) × IsNone name names × AreApart names

abbrev pub IsNamed : List (List ℕ) → List ℕ → Type 0
IsNamed names [] = Unit {0}
IsNamed [] (p ∷ powers) = (p ≡ 0) × IsNamed [] powers
IsNamed (name ∷ names) (p ∷ powers) = IsNamed names powers

abbrev pub ends : List ℕ → Bool
ends [] = true
ends (b ∷ bs) = not (is_name_byte b) && not (b == 94) && not (b == 42)
