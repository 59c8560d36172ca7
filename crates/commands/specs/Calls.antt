-- What a run of the program has done with its source, its sink and its tally, by what is done for its words.
--     IsLeft left input      the input is what the source has left, where it tells that; else it may be any
--     IsKnown work left input      the input is what the source has left, and told; where it doesn't count it may be any
--     WritesBeginning written written' text      a beginning of the text was added to what was written, where that is
--         told
--     Outputs work left written written' tally tally' status      the text of the output was written, the tally grew
--         by its steps, and the status is its
--     IsMark left ended      whether no byte is left, where that is told
--     AnswersLines work left left' written written' tally tally'      of the whole lines that were taken from the
--         source none is refused, all answers to them were written, and the tally grew by their steps; of those of
--         `check` none up to the line `block` is refused, and none is too long for an input, nothing was written,
--         and no step was taken
--     IsPart work ended bytes text steps      the text and the steps of the lines of the bytes, with the end of the
--         input behind them where it ended; for refused words the usage line, for `demo` the text of its number
--     StopsWithin work left left' written written' tally tally'      a beginning of this text was written, of the
--         bytes that were taken from the source, and the tally grew by no more than these steps
use Rattle.std.specs.Prelude.{◌≡◌, ℕ, ◌+◌, ◌≤◌, Bool, true, false, List, [], ◌∷◌, ◌++◌, take, Option, Some, None}
use Rattle.demo.specs.DemoText.{IsDemoText}
use Rattle.ports.specs.Bytes.{WritesAll, TakesBytes}
use Rattle.script.specs.Answers.{items_of}
use Rattle.script.specs.Checking as checking
use Rattle.script.specs.Header.{Empty}
use Rattle.script.specs.Script.{State}
use Rattle.commands.specs.Checks.{IsChecked, Leads}
use Rattle.commands.specs.declared.command.ScriptCommand.{ScriptCommand}
use Rattle.commands.specs.Output.{Asked, AreAnswers, IsWhole, IsOutput, steps_of}
use Rattle.commands.specs.Words.{Work, is_reading, usage_line}
use Rattle.commands.specs.Words as work

abbrev pub IsLeft : Option (List ℕ) → List ℕ → Type 0
IsLeft None input = Unit {0}
IsLeft (Some bytes) input = bytes ≡ input

abbrev pub IsKnownBy : Bool → Option (List ℕ) → List ℕ → Type 0
IsKnownBy false left input = Unit {0}
IsKnownBy true None input = ⊥
IsKnownBy true (Some bytes) input = bytes ≡ input

abbrev pub IsKnown : Option Work → Option (List ℕ) → List ℕ → Type 0
IsKnown work left input = IsKnownBy (is_reading work) left input

abbrev pub WritesBeginning : Option (List ℕ) → Option (List ℕ) → List ℕ → Type 0
WritesBeginning None written' text = written' ≡ None
WritesBeginning (Some bytes) written' text = (n : ℕ) × (written' ≡ Some (bytes ++ take n text))

pub record Outputs (work : Option Work) (left written written' : Option (List ℕ)) (tally tally' status : ℕ) :
    Type 0 where
  pub input : List ℕ
  pub is_left : IsLeft left input
  pub text : List ℕ
  pub steps : ℕ
  pub output : IsOutput work input text status steps
  pub writes : WritesAll written written' text
  pub spends : tally' ≡ tally + steps

-- of a command that answers requests
pub record AnswersRequests (c : ScriptCommand) (left left' written written' : Option (List ℕ)) (tally tally' : ℕ) :
    Type 0 where
  pub bytes : List ℕ
  pub taken : TakesBytes left left' bytes
  pub text : List ℕ
  pub state : State
  pub asked : Asked
  pub answers : AreAnswers c (items_of false bytes) text (Some state) asked
  pub writes : WritesAll written written' text
  pub spends : tally' ≡ tally + steps_of c asked

-- of `check`
pub record ReadsLines (left left' written written' : Option (List ℕ)) (tally tally' : ℕ) : Type 0 where
  pub bytes : List ℕ
  pub taken : TakesBytes left left' bytes
  pub state : checking.State
  pub leads : Leads (checking.Begun Empty) 1 (items_of false bytes) state
  pub writes : WritesAll written written' []
  pub spends : tally' ≡ tally

abbrev pub AnswersLines : Option Work → Option (List ℕ) → Option (List ℕ) → Option (List ℕ) → Option (List ℕ) → ℕ
    → ℕ → Type 0
AnswersLines None left left' written written' tally tally' = ⊥
AnswersLines (Some (work.Script c)) left left' written written' tally tally' =
    AnswersRequests c left left' written written' tally tally'
AnswersLines (Some work.Check) left left' written written' tally tally' =
    ReadsLines left left' written written' tally tally'
AnswersLines (Some (work.Demo n)) left left' written written' tally tally' = ⊥

abbrev pub IsMark : Option (List ℕ) → Bool → Type 0
IsMark None ended = Unit {0}
IsMark (Some []) ended = ended ≡ true
IsMark (Some (b ∷ bytes)) ended = ended ≡ false

abbrev pub IsPart : Option Work → Bool → List ℕ → List ℕ → ℕ → Type 0
IsPart None ended bytes text steps = (text ≡ usage_line) × (steps ≡ 0)
IsPart (Some (work.Script c)) true bytes text steps =
    (status : ℕ) × (asked : Asked) × IsWhole c bytes text status asked × (steps ≡ steps_of c asked)
IsPart (Some (work.Script c)) false bytes text steps =
    (after : Option State) × (asked : Asked) × AreAnswers c (items_of false bytes) text after asked
    × (steps ≡ steps_of c asked)
IsPart (Some work.Check) ended bytes text steps = (status : ℕ) × IsChecked ended bytes text status steps
IsPart (Some (work.Demo n)) ended bytes text steps = IsDemoText n text × (steps ≡ 164)

pub record StopsWithin (work : Option Work) (left left' written written' : Option (List ℕ)) (tally tally' : ℕ) :
    Type 0 where
  pub bytes : List ℕ
  pub taken : TakesBytes left left' bytes
  pub ended : Bool
  pub mark : IsMark left' ended
  pub writes : (text : List ℕ) (steps : ℕ) → IsPart work ended bytes text steps
      → WritesBeginning written written' text
  pub more : tally ≤ tally'
  pub at_most : (text : List ℕ) (steps : ℕ) → IsPart work ended bytes text steps
      → tally' ≤ tally + steps
