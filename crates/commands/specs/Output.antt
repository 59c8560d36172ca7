-- What the program writes for its words and its input, the status that it ends with, and its steps.
--     AreAnswers c items text after asked      what is written for the lines of a script: the answers to the requests,
--         behind them the line that refuses one of the lines; after is the state behind them, None behind a refusal
--     degrees_of asked      how many degrees the greatest precision that is asked for has: none without a request
--     steps_of c asked      the steps of the requests: of each root one for each of these degrees
--     IsEnd after text status      what is written where the input ends in the state, and the status
--     IsWhole c input text status asked      what is written for a whole input
--     IsOutput work input text status steps      the same of the program's words, by what is done for them: for
--         `check` what is told of all lines and the end behind them; for `demo` the text of the number, for which, as
--         for refused words, the input doesn't count
use Rattle.std.specs.Prelude.{◌≡◌, ℕ, suc, ◌*◌, max, true, List, [], ◌∷◌, ◌++◌, length, Option, Some, None}
use Rattle.demo.specs.DemoText.{IsDemoText}
use Rattle.script.specs.Answers.{Item, items_of, IsWritten}
use Rattle.script.specs.Header.{Empty}
use Rattle.script.specs.Refusals.{end_refused}
use Rattle.script.specs.Requests.{precision_of}
use Rattle.script.specs.Script.{State, Begun, Has, Does, missing}
use Rattle.script.specs.declared.refusal.Refusal.{Refusal}
use Rattle.script.specs.declared.request.Request.{Request}
use Rattle.commands.specs.declared.command.ScriptCommand.{ScriptCommand}
use Rattle.commands.specs.declared.command.ScriptCommand.TheVariants.{Factor, Expand}
use Rattle.commands.specs.Checks.{IsChecked}
use Rattle.commands.specs.Replies.{Answers}
use Rattle.commands.specs.Words.{Work, takes_streams, usage_line}
use Rattle.commands.specs.Words as work

abbrev pub Asked : Type 0
Asked = List (State × Request)

abbrev pub AreAnswers : ScriptCommand → List Item → List ℕ → Option State → Asked → Type 0
AreAnswers c = IsWritten (Does (takes_streams c)) (Answers c) (Begun Empty) 1

abbrev pub degrees_of : Asked → ℕ
degrees_of [] = 0
degrees_of ((s, r) ∷ asked) = max (suc (precision_of r)) (degrees_of asked)

abbrev pub roots_in : State → ℕ
roots_in (Begun h) = 0
roots_in (Has names job) = length job.roots

abbrev pub roots_of : Asked → ℕ
roots_of [] = 0
roots_of ((s, r) ∷ asked) = roots_in s

abbrev pub steps_of : ScriptCommand → Asked → ℕ
steps_of Factor asked = roots_of asked * degrees_of asked
steps_of Expand asked = 0

abbrev pub IsMissing : Option Refusal → List ℕ → ℕ → Type 0
IsMissing None text status = (text ≡ []) × (status ≡ 0)
IsMissing (Some r) text status = (text ≡ end_refused r) × (status ≡ 1)

abbrev pub IsEnd : Option State → List ℕ → ℕ → Type 0
IsEnd None text status = (text ≡ []) × (status ≡ 1)
IsEnd (Some s) text status = IsMissing (missing s) text status

pub record IsWhole (c : ScriptCommand) (input text : List ℕ) (status : ℕ) (asked : Asked) : Type 0 where
  pub lines : List ℕ
  pub end : List ℕ
  pub after : Option State
  pub of_lines : AreAnswers c (items_of true input) lines after asked
  pub of_end : IsEnd after end status
  pub text_is : text ≡ lines ++ end

abbrev pub IsOutput : Option Work → List ℕ → List ℕ → ℕ → ℕ → Type 0
IsOutput None input text status steps = (text ≡ usage_line) × (status ≡ 2) × (steps ≡ 0)
IsOutput (Some (work.Script c)) input text status steps =
    (asked : Asked) × IsWhole c input text status asked × (steps ≡ steps_of c asked)
IsOutput (Some work.Check) input text status steps = IsChecked true input text status steps
IsOutput (Some (work.Demo n)) input text status steps = IsDemoText n text × (status ≡ 0) × (steps ≡ 164)
