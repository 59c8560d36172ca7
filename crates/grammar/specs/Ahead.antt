-- The token in hand, and those behind it.
--     Ahead      a token with its place, and the tokens behind it
--     all a      the token in hand and those behind it
--     behind names token next text      the tokens behind this one, whose bytes end at `next`; none behind the end
use Rattle.std.specs.Prelude.{ℕ, if◌then◌else◌, List, [], ◌∷◌, drop}
use Rattle.ps_model.specs.Tokens.{Token, Placed, is_end, tokens}

pub record Ahead : Type 0 where
  pub token : Token
  pub place : ℕ
  pub rest : List Placed

abbrev pub all : Ahead → List Placed
all a = record { place = a.place; token = a.token } ∷ a.rest

abbrev pub behind : List (List ℕ) → Token → ℕ → List ℕ → List Placed
behind names token next text = if is_end token then [] else tokens names next 0 (drop next text)
