-- Numbers as they are written.
--     number_of digits      the number that decimal digits stand for; 0 of none
--     is_number text      one or more digits, with leading zeros or without
--     number_in low high text      the number, where one from low to high is written
use Rattle.std.specs.Prelude.{ℕ, ◌&&◌, nat_le, nat_lt, if◌then◌else◌, Bool, List, length, Option, Some, None}
use Rattle.std.specs.List.{list_all}
use Rattle.std.specs.Char.{is_ascii_digit}
use Rattle.std.specs.Str.Parse.{digits_value}

abbrev pub number_of : List ℕ → ℕ
number_of digits = digits_value 10 digits

abbrev pub is_number : List ℕ → Bool
is_number text = nat_lt 0 (length text) && list_all is_ascii_digit text

abbrev pub number_in : ℕ → ℕ → List ℕ → Option ℕ
number_in low high text =
    if is_number text && (nat_le low (number_of text) && nat_le (number_of text) high) then Some (number_of text) else
    None
