-- Names of variables.
--     is_name_byte b      a letter of ASCII, a digit or `_`
--     is_name text      a letter, then letters, digits or `_`, at most 16 bytes in all, and not `Y`; false of no byte
--     AreNames names      each is a name, and no two are equal; so of none
use Rattle.std.specs.Prelude.{◌≡◌, ℕ, ◌==◌, ◌||◌, ◌&&◌, nat_le, not, Bool, true, false, List, [], ◌∷◌, length, codes}
use Rattle.std.specs.Char.{is_ascii_alphabetic, is_ascii_alphanumeric}
use Rattle.std.specs.List.{list_all, IsDistinct}
use Rattle.std.specs.Str.{bytes_eq}

abbrev pub is_name_byte : ℕ → Bool
is_name_byte b = is_ascii_alphanumeric b || b == 95

abbrev pub is_name : List ℕ → Bool
is_name [] = false
is_name (b ∷ bs) =
    is_ascii_alphabetic b && list_all is_name_byte bs && nat_le (length bs) 15 && not (bytes_eq (b ∷ bs) (codes "Y"))

pub record AreNames (names : List (List ℕ)) : Type 0 where
  pub each : list_all is_name names ≡ true
  pub distinct : IsDistinct bytes_eq names
