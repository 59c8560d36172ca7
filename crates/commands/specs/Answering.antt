-- What the steps of a run have done.
--     AnswersOnly c s r text      the text answers the request in the state, and no other text does
--     DoesOnly c s line o      this is what the line does in the state, and nothing else
--     AreOnly c s n items text after asked      what is written for the items from line n on, in the state s
--     MayBe c s n items text after asked      the same, by the definitions alone
--     HasStopped e before now      why no request is answered: a fault of the sink was counted, or there is no memory
--     Answered c s r result old new before now      Ok: the answer was written; else a beginning of it
--     FactoringValue, ExpandingValue      what contracts see of what answers the requests of the two commands
use Rattle.std.specs.Prelude.{◌≡◌, ℕ, ◌≤◌, List, Option, Result, OnOk, OnErr, IfErr}
use Rattle.ports.specs.Bytes.{WritesAll}
use Rattle.ports.specs.Faults.{Rose}
use Rattle.ps_model.specs.declared.job.JobData.{JobData}
use Rattle.script.specs.Answers.{Item, Outcome, IsWritten}
use Rattle.script.specs.Script.{State, Does}
use Rattle.script.specs.declared.request.Request.{Request}
use Rattle.commands.specs.declared.command.ScriptCommand.{ScriptCommand}
use Rattle.commands.specs.declared.stop.Stop.{Stop}
use Rattle.commands.specs.declared.stop.Stop.TheVariants as stop
use Rattle.commands.specs.Calls.{WritesBeginning}
use Rattle.commands.specs.Output.{Asked}
use Rattle.commands.specs.Replies.{Answers}
use Rattle.commands.specs.Words.{takes_streams}

abbrev pub AnswersOnly : ScriptCommand → State → Request → List ℕ → Type 0
AnswersOnly c s r text = Answers c s r text × ((other : List ℕ) → Answers c s r other → other ≡ text)

abbrev pub DoesOnly : ScriptCommand → State → List ℕ → Outcome State Request → Type 0
DoesOnly c s line o =
    Does (takes_streams c) s line o
    × ((other : Outcome State Request) → Does (takes_streams c) s line other → other ≡ o)

abbrev pub AreOnly : ScriptCommand → State → ℕ → List Item → List ℕ → Option State → Asked → Type 0
AreOnly c = IsWritten (DoesOnly c) (AnswersOnly c)

abbrev pub MayBe : ScriptCommand → State → ℕ → List Item → List ℕ → Option State → Asked → Type 0
MayBe c = IsWritten (Does (takes_streams c)) (Answers c)

abbrev pub HasStopped : Stop → ℕ → ℕ → Type 0
HasStopped stop.Refused before now = ⊥
HasStopped stop.ReadFault before now = ⊥
HasStopped stop.WriteFault before now = Rose before now
HasStopped stop.OutOfMemory before now = Unit {0}

pub record Answered (c : ScriptCommand) (s : State) (r : Request) {A : Type 0} (result : Result A Stop)
    (old new : Option (List ℕ)) (before now : ℕ) : Type 0 where
  pub ok : OnOk result ((text : List ℕ) × AnswersOnly c s r text × WritesAll old new text)
  pub err : OnErr result ((text : List ℕ) → Answers c s r text → WritesBeginning old new text)
  pub stop : IfErr result (λ e. HasStopped e before now)
  pub faults : before ≤ now

pub record FactoringValue : Type 0 where
  pub names : List (List ℕ)
  pub job : JobData
  pub degrees : ℕ

pub record ExpandingValue : Type 0 where
  pub names : List (List ℕ)
  pub job : JobData
