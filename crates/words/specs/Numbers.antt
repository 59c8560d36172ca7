-- Words that are numbers.
--     IsNumber most low high word n      the word is one to `most` decimal digits, with leading zeros or without, and
--         stands for n, from low to high
--     number_in most low high word      this number, None of a word that is none
use Rattle.std.specs.Prelude.{◌≡◌, ◌≤◌, ℕ, ◌&&◌, nat_le, if◌then◌else◌, Bool, true, List, length, Option, Some, None}
use Rattle.std.specs.Str.{all_ascii_digits}
use Rattle.std.specs.Str.Parse.{digits_value}

pub record IsNumber (most low high : ℕ) (word : List ℕ) (n : ℕ) : Type 0 where
  pub digits : all_ascii_digits word ≡ true
  pub some : 1 ≤ length word
  pub at_most : length word ≤ most
  pub value : digits_value 10 word ≡ n
  pub from : low ≤ n
  pub to : n ≤ high

abbrev pub are_digits : ℕ → List ℕ → Bool
are_digits most word = all_ascii_digits word && (nat_le 1 (length word) && nat_le (length word) most)

abbrev pub is_within : ℕ → ℕ → ℕ → Bool
is_within low high n = nat_le low n && nat_le n high

abbrev pub number_in : ℕ → ℕ → ℕ → List ℕ → Option ℕ
number_in most low high word =
    if are_digits most word && is_within low high (digits_value 10 word) then Some (digits_value 10 word) else None
