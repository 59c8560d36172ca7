-- Which token of a text is refused first, and why.
--     Fault      what is told of a token, with its place
--     IsPrefix ts      more tokens make these an expression; a name counts as known here, and a number as small
--     IsWhole ts      they are an expression
--     opened ts, closed ts      how many parentheses they open, and close
--     awaits_exponent ts      the last of them is `^`; false of none
--     Passes before t      the token passes all six tests, behind the tokens before it
--     Fails before p f      it doesn't, and f is told, which belongs to the first that it fails
--     IsFirstFaultOf before ps f      f is told of the first of the tokens ps that fails
--     IsFirstFault names text f      it is told of the text
--     Reads names text e      the text has no fault, and spells the tree
-- The end of the text is a token: it is allowed where the tokens before it are an expression.
use Rattle.std.specs.Prelude.{ℕ, ◌+◌, ◌<◌, ◌≤◌, ◌≡◌, ◌⊎◌, Bool, true, false, List, [], ◌∷◌, ◌++◌, map}
use Rattle.ps_model.specs.Tokens.{Token, Placed, tokens_of}
use Rattle.ps_model.specs.Tokens as tok
use Rattle.ps_model.specs.Grammar.{IsExpression, Spells}
use Rattle.ps_model.specs.declared.expr.Expr.{Expr}

pub data Fault : Type 0 where
  BadCharacter : ℕ → Fault
  Expected : ℕ → Fault
  UnknownName : ℕ → Fault
  NumberTooLarge : ℕ → Fault
  ExponentTooLarge : ℕ → Fault
  TooDeep : ℕ → Fault

-- a token as the grammar sees it
abbrev pub as_operand : Token → Token
as_operand tok.TooLarge = tok.Number 0
as_operand tok.UnknownName = tok.Name 0
as_operand t = t

abbrev pub IsPrefix : List Token → Type 0
IsPrefix ts = (more : List Token) × (e : Expr) × IsExpression (map as_operand ts ++ more) e

abbrev pub IsWhole : List Token → Type 0
IsWhole ts = (e : Expr) × IsExpression (map as_operand ts) e

abbrev pub opening : Token → ℕ
opening tok.Open = 1
opening t = 0

abbrev pub closing : Token → ℕ
closing tok.Close = 1
closing t = 0

abbrev pub opened : List Token → ℕ
opened [] = 0
opened (t ∷ ts) = opening t + opened ts

abbrev pub closed : List Token → ℕ
closed [] = 0
closed (t ∷ ts) = closing t + closed ts

abbrev pub is_power : Token → Bool
is_power tok.Power = true
is_power t = false

abbrev pub awaits_exponent : List Token → Bool
awaits_exponent [] = false
awaits_exponent (t ∷ []) = is_power t
awaits_exponent (t ∷ u ∷ ts) = awaits_exponent (u ∷ ts)

-- the six tests of a token behind others
abbrev pub BeginsToken : Token → Type 0
BeginsToken tok.Bad = ⊥
BeginsToken t = Unit {0}

abbrev pub IsAllowed : List Token → Token → Type 0
IsAllowed before tok.End = IsWhole before
IsAllowed before t = IsPrefix (before ++ t ∷ [])

abbrev pub IsKnown : Token → Type 0
IsKnown tok.UnknownName = ⊥
IsKnown t = Unit {0}

abbrev pub IsSmallNumber : List Token → Token → Type 0
IsSmallNumber before tok.TooLarge = awaits_exponent before ≡ true
IsSmallNumber before t = Unit {0}

abbrev pub IsSmallExponent : List Token → Token → Type 0
IsSmallExponent before (tok.Number n) = awaits_exponent before ≡ true → n ≤ 255
IsSmallExponent before tok.TooLarge = awaits_exponent before ≡ true → ⊥
IsSmallExponent before t = Unit {0}

abbrev pub IsShallow : List Token → Token → Type 0
IsShallow before tok.Open = opened before < 64 + closed before
IsShallow before t = Unit {0}

pub record Passes (before : List Token) (t : Token) : Type 0 where
  pub begins : BeginsToken t
  pub allowed : IsAllowed before t
  pub known : IsKnown t
  pub number : IsSmallNumber before t
  pub exponent : IsSmallExponent before t
  pub shallow : IsShallow before t

-- f is the fault of this test where it fails, and of the later tests where it doesn't
abbrev pub Tested : Type 0 → Fault → (Fault → Type 0) → Fault → Type 0
Tested Test fault Later f = ((Test → ⊥) × (f ≡ fault)) ⊎ (Test × Later f)

abbrev pub Fails : List Token → Placed → Fault → Type 0
Fails before p =
    Tested (BeginsToken p.token) (BadCharacter p.place) (
    Tested (IsAllowed before p.token) (Expected p.place) (
    Tested (IsKnown p.token) (UnknownName p.place) (
    Tested (IsSmallNumber before p.token) (NumberTooLarge p.place) (
    Tested (IsSmallExponent before p.token) (ExponentTooLarge p.place) (
    Tested (IsShallow before p.token) (TooDeep p.place) (λ _. ⊥))))))

abbrev pub IsFirstFaultOf : List Token → List Placed → Fault → Type 0
IsFirstFaultOf before [] f = ⊥
IsFirstFaultOf before (p ∷ ps) f =
    Fails before p f ⊎ (Passes before p.token × IsFirstFaultOf (before ++ p.token ∷ []) ps f)

abbrev pub IsFirstFault : List (List ℕ) → List ℕ → Fault → Type 0
IsFirstFault names text f = IsFirstFaultOf [] (tokens_of names text) f

pub record Reads (names : List (List ℕ)) (text : List ℕ) (e : Expr) : Type 0 where
  pub no_fault : (f : Fault) → IsFirstFault names text f → ⊥
  pub spelled : Spells names text e
