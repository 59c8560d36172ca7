-- How reading goes: what was read so far, and what the next token does to it. No public clause speaks of it.
--     State      where reading stands; each open parenthesis has a Frame, the innermost first
--     Frame      the terms and powers before the operand that is awaited, with their signs
--     step s t      what a token does, apart from all limits; None where the grammar allows no such token
--     finish s      the tree at the end of the text; None where more is needed
--     broken s place t      the first limit that a token breaks which the grammar allows
--     next s place t      what a token does, or the first test that it fails
--     run s ps      what reading answers from a state on
use Rattle.std.specs.Prelude.{ℕ, Bool, true, false, List, [], ◌∷◌, ◌++◌, length, Option, Some, None, Result, Ok, Err}
use Rattle.std.specs.Prelude.{nat_le, nat_lt, if◌then◌else◌}
use Rattle.ps_model.specs.Tokens.{Token, Placed, is_end}
use Rattle.ps_model.specs.Tokens as tok
use Rattle.ps_model.specs.FirstFault.{Fault, as_operand}
use Rattle.ps_model.specs.FirstFault as err
use Rattle.ps_model.specs.declared.expr.Expr.{Expr, Number, Name, MainVariable, Sum, Product, Power}
use Rattle.ps_model.specs.declared.expr.Summand.{Summand}
use Rattle.ps_model.specs.declared.expr.Factor.{Factor}

-- the tree of a term of these powers
abbrev pub term_of : List Factor → Expr
term_of [] = Product []
term_of (f ∷ []) = f.of
term_of (f ∷ g ∷ fs) = Product (f ∷ g ∷ fs)

-- the tree of an expression of these terms
abbrev pub expression_of : List Summand → Expr
expression_of [] = Sum []
expression_of (s ∷ []) = if s.minus then Sum (s ∷ []) else s.of
expression_of (s ∷ t ∷ ss) = Sum (s ∷ t ∷ ss)

abbrev pub is_one_plain : List Summand → Bool
is_one_plain [] = false
is_one_plain (s ∷ []) = if s.minus then false else true
is_one_plain (s ∷ t ∷ ss) = false

-- An operand is awaited: after these summands and this sign, and in the term after these factors and this sign.
pub record Frame : Type 0 where
  pub summands : List Summand
  pub minus : Bool
  pub factors : List Factor
  pub divide : Bool

abbrev pub fresh : List Summand → Bool → Frame
fresh summands minus = record { summands = summands; minus = minus; factors = []; divide = false }

-- Where reading stands. The frames are those that parentheses interrupt, the innermost first.
pub data State : Type 0 where
  start : List Frame → State
  operand : Frame → List Frame → State
  based : Expr → Frame → List Frame → State
  exponent : Expr → Frame → List Frame → State
  powered : List Factor → List Summand → Bool → List Frame → State
  termed : List Summand → List Frame → State
  whole : Expr → List Frame → State

abbrev pub with_factor : Frame → Expr → List Factor
with_factor fr e = fr.factors ++ record { divide = fr.divide; of = e } ∷ []

-- What a token does, apart from all limits. Without an answer the grammar allows no such token.
abbrev pub step_whole : Expr → List Frame → Token → Option State
step_whole e (fr ∷ outer) tok.Close = Some (based e fr outer)
step_whole e (fr ∷ outer) _ = None
step_whole e [] _ = None

abbrev pub step_termed : List Summand → List Frame → Token → Option State
step_termed ss outer tok.Plus = Some (operand (fresh ss false) outer)
step_termed ss outer tok.Minus = Some (operand (fresh ss true) outer)
step_termed ss outer t = step_whole (expression_of ss) outer t

abbrev pub step_powered : List Factor → List Summand → Bool → List Frame → Token → Option State
step_powered fs ss minus outer tok.Times = Some (operand
    (record { summands = ss; minus = minus; factors = fs; divide = false }) outer)
step_powered fs ss minus outer tok.Divide = Some (operand
    (record { summands = ss; minus = minus; factors = fs; divide = true }) outer)
step_powered fs ss minus outer t = step_termed (ss ++ record { minus = minus; of = term_of fs } ∷ []) outer t

abbrev pub step_operand : Frame → List Frame → Token → Option State
step_operand fr outer (tok.Number n) = Some (based (Number n) fr outer)
step_operand fr outer (tok.Name i) = Some (based (Name i) fr outer)
step_operand fr outer tok.MainVariable = Some (based MainVariable fr outer)
step_operand fr outer tok.Open = Some (start (fr ∷ outer))
step_operand fr outer _ = None

abbrev pub step : State → Token → Option State
step (start outer) tok.Minus = Some (operand (fresh [] true) outer)
step (start outer) t = step_operand (fresh [] false) outer t
step (operand fr outer) t = step_operand fr outer t
step (based e fr outer) tok.Power = Some (exponent e fr outer)
step (based e fr outer) t = step_powered (with_factor fr e) fr.summands fr.minus outer t
step (exponent e fr outer) (tok.Number n) = Some (powered (with_factor fr (Power e n)) fr.summands fr.minus outer)
step (exponent e fr outer) _ = None
step (powered fs ss minus outer) t = step_powered fs ss minus outer t
step (termed ss outer) t = step_termed ss outer t
step (whole e outer) t = step_whole e outer t

-- the tree, where no parenthesis is open
abbrev pub closed : Expr → List Frame → Option Expr
closed e [] = Some e
closed e (fr ∷ outer) = None

-- the tree at the end of the text
abbrev pub finish : State → Option Expr
finish (start outer) = None
finish (operand fr outer) = None
finish (based e fr outer) = closed (expression_of (fr.summands ++ record {
  minus = fr.minus;
  of = term_of
      (with_factor fr e);
} ∷ [])) outer
finish (exponent e fr outer) = None
finish (powered fs ss minus outer) = closed (expression_of (ss ++ record { minus = minus; of = term_of fs } ∷ [])) outer
finish (termed ss outer) = closed (expression_of ss) outer
finish (whole e outer) = closed e outer

abbrev pub depth : State → ℕ
depth (start outer) = length outer
depth (operand fr outer) = length outer
depth (based e fr outer) = length outer
depth (exponent e fr outer) = length outer
depth (powered fs ss minus outer) = length outer
depth (termed ss outer) = length outer
depth (whole e outer) = length outer

-- The first limit that a token breaks which the grammar allows.
abbrev pub broken : State → ℕ → Token → Option Fault
broken (exponent e fr outer) place (tok.Number n) = if nat_le n 255 then None else Some (err.ExponentTooLarge place)
broken (exponent e fr outer) place tok.TooLarge = Some (err.ExponentTooLarge place)
broken s place tok.UnknownName = Some (err.UnknownName place)
broken s place tok.TooLarge = Some (err.NumberTooLarge place)
broken s place tok.Open = if nat_lt (depth s) 64 then None else Some (err.TooDeep place)
broken s place t = None

-- what is said of a token that the grammar doesn't allow
abbrev pub refusal : ℕ → Token → Fault
refusal place tok.Bad = err.BadCharacter place
refusal place t = err.Expected place

abbrev pub judged : Fault → Option Fault → Option State → Result State Fault
judged refused limit None = Err refused
judged refused None (Some s) = Ok s
judged refused (Some f) (Some s) = Err f

-- what a token does, or the first test that it fails
abbrev pub next : State → ℕ → Token → Result State Fault
next s place t = judged (refusal place t) (broken s place t) (step s (as_operand t))

abbrev pub answer : ℕ → Option Expr → Result Expr Fault
answer place None = Err (err.Expected place)
answer place (Some e) = Ok e

abbrev pub go_on : Result State Fault → (State → Result Expr Fault) → Result Expr Fault
go_on (Err f) read = Err f
go_on (Ok s) read = read s

-- What reading answers from a state on.
abbrev pub run : State → List Placed → Result Expr Fault
run s [] = Err (err.Expected 0)
run s (p ∷ ps) = if is_end p.token then answer p.place (finish s) else go_on (next s p.place p.token)
    (λ (t : State). run t ps)
