-- The tokens of an expression's text.
--     Token      what a token stands for; a name that is none of the names, a number past 64 bits, a byte that
--         begins no token and the end of the text are tokens too
--     Placed      a token with the place of its first byte
--     is_blank b      a space or a tab
--     without_blanks text      the text without the blanks at its end
--     token_at names b bs      the token that begins with the byte b before the bytes bs
--     more_bytes b bs      how many of the bytes bs belong to it
--     tokens names place skip bs      the tokens of the bytes from the place on, of which `skip` belong to the token
--         before; the last is the end
--     tokens_of names text      the tokens of a text; only the end of an empty one
--     before_end ps      the tokens before the end
use Rattle.std.specs.Prelude.{ℕ, zero, suc, ◌+◌, ◌^◌, Bool, true, false, ◌&&◌, ◌||◌, ◌==◌, nat_lt, if◌then◌else◌}
use Rattle.std.specs.Prelude.{List, [], ◌∷◌, length, take_while, codes, Option, Some, None}
use Rattle.std.specs.Char.{is_ascii_digit, is_ascii_alphabetic}
use Rattle.std.specs.List.{position}
use Rattle.std.specs.Str.{bytes_eq}
use Rattle.std.specs.Str.Parse.{digits_value}
use Rattle.ps_model.specs.Names.{is_name_byte}

pub data Token : Type 0 where
  Plus : Token
  Minus : Token
  Times : Token
  Divide : Token
  Power : Token
  Open : Token
  Close : Token
  Number : ℕ → Token
  TooLarge : Token
  Name : ℕ → Token
  MainVariable : Token
  UnknownName : Token
  Bad : Token
  End : Token

pub record Placed : Type 0 where
  pub place : ℕ
  pub token : Token

abbrev pub is_end : Token → Bool
is_end End = true
is_end t = false

abbrev pub is_blank : ℕ → Bool
is_blank b = b == 32 || b == 9

abbrev pub is_empty : List ℕ → Bool
is_empty [] = true
is_empty (b ∷ bs) = false

abbrev pub without_blanks : List ℕ → List ℕ
without_blanks [] = []
without_blanks (b ∷ bs) = if is_blank b && is_empty (without_blanks bs) then [] else b ∷ without_blanks bs

abbrev pub symbol_token : ℕ → Token
symbol_token b =
    if b == 43 then Plus else (if b == 45 then Minus else (if b == 42 then Times else (if b == 47 then Divide
    else (if b == 94 then Power else (if b == 40 then Open else (if b == 41 then Close else Bad))))))

abbrev pub number_token : List ℕ → Token
number_token digits = if nat_lt (digits_value 10 digits) (2 ^ 64) then Number (digits_value 10 digits) else TooLarge

abbrev pub named : Option ℕ → Token
named None = UnknownName
named (Some i) = Name i

abbrev pub word_token : List (List ℕ) → List ℕ → Token
word_token names word = if bytes_eq word (codes "Y") then MainVariable else named (position (bytes_eq word) names)

abbrev pub token_at : List (List ℕ) → ℕ → List ℕ → Token
token_at names b bs =
    if is_ascii_digit b then number_token (b ∷ take_while is_ascii_digit bs)
    else (if is_ascii_alphabetic b then word_token names (b ∷ take_while is_name_byte bs) else symbol_token b)

abbrev pub more_bytes : ℕ → List ℕ → ℕ
more_bytes b bs =
    if is_ascii_digit b then length (take_while is_ascii_digit bs)
    else (if is_ascii_alphabetic b then length (take_while is_name_byte bs) else 0)

abbrev pub tokens : List (List ℕ) → ℕ → ℕ → List ℕ → List Placed
tokens names place skip [] = record { place = place; token = End } ∷ []
tokens names place (suc skip) (b ∷ bs) = tokens names (place + 1) skip bs
tokens names place zero (b ∷ bs) =
    if is_blank b then tokens names (place + 1) 0 bs
    else record { place = place; token = token_at names b bs } ∷ tokens names (place + 1) (more_bytes b bs) bs

abbrev pub tokens_of : List (List ℕ) → List ℕ → List Placed
tokens_of names text = tokens names 0 0 (without_blanks text)

abbrev pub before_end : List Placed → List Token
before_end [] = []
before_end (p ∷ ps) = if is_end p.token then [] else p.token ∷ before_end ps
