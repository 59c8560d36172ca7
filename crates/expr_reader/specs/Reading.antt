-- What a part of the reader does: it brings the machine from one state to another, or stops it with a fault.
--     token_of t      the token that the code has in hand
--     Stops s error old      the machine stops with this error; out of memory says nothing
--     Moves s to result old new      what was answered brings the machine from s to the state that `to` gives
--     left a      how many tokens are left
--     Runs answer ran      the answer is what the machine gives, unless memory ran out
use Rattle.std.specs.Prelude.{ℕ, ◌≡◌, Bool, List, [], ◌∷◌, ◌++◌, length, Option, Some, None, Result, Ok, Err}
use Rattle.expr_reader.specs.declared.read_error.ReadError.{ReadError}
use Rattle.expr_reader.specs.declared.read_error.ReadError.TheVariants as err
use Rattle.expr_reader.specs.declared.token.Token.{Token}
use Rattle.expr_reader.specs.declared.token.Token.TheVariants as code
use Rattle.ps_model.specs.Tokens as tok
use Rattle.ps_model.specs.FirstFault.{Fault}
use Rattle.ps_model.specs.FirstFault as fault
use Rattle.ps_model.specs.declared.expr.Expr.{Expr, Power}
use Rattle.ps_model.specs.declared.expr.Summand.{Summand}
use Rattle.ps_model.specs.declared.expr.Factor.{Factor}
use Rattle.grammar.specs.Machine.{Frame, State, operand, termed, whole, fresh, term_of, expression_of, run}
use Rattle.grammar.specs.Ahead.{Ahead, all}

abbrev pub token_of : Token → tok.Token
token_of code.Plus = tok.Plus
token_of code.Minus = tok.Minus
token_of code.Times = tok.Times
token_of code.Divide = tok.Divide
token_of code.Power = tok.Power
token_of code.Open = tok.Open
token_of code.Close = tok.Close
token_of (code.Number n) = tok.Number n
token_of code.TooLarge = tok.TooLarge
token_of (code.Name i) = tok.Name i
token_of code.MainVariable = tok.MainVariable
token_of code.UnknownName = tok.UnknownName
token_of code.Bad = tok.Bad
token_of code.End = tok.End

abbrev pub Stops : State → ReadError → Ahead → Type 0
Stops s err.OutOfMemory old = Unit {0}
Stops s (err.BadCharacter p) old = run s (all old) ≡ Err (fault.BadCharacter p)
Stops s (err.Expected p) old = run s (all old) ≡ Err (fault.Expected p)
Stops s (err.UnknownName p) old = run s (all old) ≡ Err (fault.UnknownName p)
Stops s (err.NumberTooLarge p) old = run s (all old) ≡ Err (fault.NumberTooLarge p)
Stops s (err.ExponentTooLarge p) old = run s (all old) ≡ Err (fault.ExponentTooLarge p)
Stops s (err.TooDeep p) old = run s (all old) ≡ Err (fault.TooDeep p)

abbrev pub Moves : {A : Type 0} → State → (A → State) → Result A ReadError → Ahead → Ahead → Type 0
Moves s to (Ok e) old new = run s (all old) ≡ run (to e) (all new)
Moves s to (Err f) old new = Stops s f old

abbrev pub raised : Expr → Option ℕ → Expr
raised e None = e
raised e (Some n) = Power e n

-- the states behind an optional sign
abbrev pub after_factor : List Factor → List Summand → Bool → List Frame → Option Bool → State
after_factor fs ss minus outer None = termed (ss ++ record { minus = minus; of = term_of fs } ∷ []) outer
after_factor fs ss minus outer (Some divide) =
    operand (record { summands = ss; minus = minus; factors = fs; divide = divide }) outer

abbrev pub after_summand : List Summand → List Frame → Option Bool → State
after_summand ss outer None = whole (expression_of ss) outer
after_summand ss outer (Some minus) = operand (fresh ss minus) outer

abbrev pub left : Ahead → ℕ
left a = length (all a)

abbrev pub Runs : Result Expr ReadError → Result Expr Fault → Type 0
Runs (Ok e) ran = ran ≡ Ok e
Runs (Err err.OutOfMemory) ran = Unit {0}
Runs (Err (err.BadCharacter p)) ran = ran ≡ Err (fault.BadCharacter p)
Runs (Err (err.Expected p)) ran = ran ≡ Err (fault.Expected p)
Runs (Err (err.UnknownName p)) ran = ran ≡ Err (fault.UnknownName p)
Runs (Err (err.NumberTooLarge p)) ran = ran ≡ Err (fault.NumberTooLarge p)
Runs (Err (err.ExponentTooLarge p)) ran = ran ≡ Err (fault.ExponentTooLarge p)
Runs (Err (err.TooDeep p)) ran = ran ≡ Err (fault.TooDeep p)
