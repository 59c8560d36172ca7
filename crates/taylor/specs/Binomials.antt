-- Tables of binomial numbers modulo a number.
--     BinomialsValue      what contracts see of a table: its modulus and its size
--     IsBinomialRow m j row      the row has binomial j i modulo m at each place i from 0 to j, and
--         nothing past them, where the number is 0
--     AreBinomials m n rows      the rows of 0 to n - 1
use Rattle.std.specs.Prelude.{◌≡◌, ℕ, suc, ◌%◌, ◌<◌, List, [], length, slice_index, slice_index_or, refl}
use Rattle.std.specs.Coded.{Coded, code_by, coded×, coded_ℕ}
use Rattle.ps_model.specs.Shift.{binomial}

pub record BinomialsValue : Type 0 where
  pub modulus : ℕ
  pub size : ℕ

abbrev pub binomials_code : Coded BinomialsValue
binomials_code =
    code_by (ℕ × ℕ) (coded× coded_ℕ coded_ℕ) (λ t. (t.modulus, t.size))
    (λ p. record { modulus = p.0; size = p.1 }) (λ _. refl)

pub record IsBinomialRow (m j : ℕ) (row : List ℕ) : Type 0 where
  pub places : length row ≡ suc j
  pub number : (i : ℕ) → slice_index row i ≡ binomial j i % m

pub record AreBinomials (m n : ℕ) (rows : List (List ℕ)) : Type 0 where
  pub count : length rows ≡ n
  pub row : (j : ℕ) → j < n → IsBinomialRow m j (slice_index_or rows j [])
