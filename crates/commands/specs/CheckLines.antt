-- What the steps of a run do to a script of `check` that is read line by line.
--     state_in c      the state in which the script is
--     IsChecking c      its job can be factored, and has its names
--     IsReady c next      so it is, and the block's lines, behind which line `next` is, are no longer than an input
--     ChecksLine c line n result ..      Ok: that, and nothing was written; else the line that refuses it was written,
--         or a beginning
use Rattle.std.specs.Prelude.{◌≡◌, ℕ, ◌<◌, ◌≤◌, Bool, List, ◌∷◌, length, Option, Result, Ok, OnOk, IfOk, IfErr}
use Rattle.ps_model.specs.AcceptedJob.{IsAccepted}
use Rattle.script.specs.Answers.{Item, Line}
use Rattle.script.specs.Checking.{State, Has, Reads, Does}
use Rattle.script.specs.Checking as checking
use Rattle.commands.specs.Checks.{IsCheckedFrom}
use Rattle.commands.specs.Statuses.{status_of}
use Rattle.commands.specs.Telling.{Tells}
use Rattle.commands.specs.declared.checking.Checking.{Checking}
use Rattle.commands.specs.declared.checking.Checking.TheVariants.{Begun, Due, Block}
use Rattle.commands.specs.declared.stop.Stop.{Stop}

abbrev pub state_in : Checking → State
state_in (Begun h) = checking.Begun h
state_in (Due job) = Has job.names job.job
state_in (Block b) = Reads b.job.names b.job.job b.first b.text.items

abbrev pub IsGood : State → Type 0
IsGood (checking.Begun h) = Unit {0}
IsGood (Has names job) = IsAccepted job × (length names ≡ job.n)
IsGood (Reads names job first text) = IsAccepted job × (length names ≡ job.n)

abbrev pub IsChecking : Checking → Type 0
IsChecking c = IsGood (state_in c)

abbrev pub IsShort : State → ℕ → ℕ → Type 0
IsShort (checking.Begun h) next most = Unit {0}
IsShort (Has names job) next most = Unit {0}
IsShort (Reads names job first text) next most = (length text ≤ most) × (first < next)

pub record IsReady (c : Checking) (next : ℕ) : Type 0 where
  pub good : IsGood (state_in c)
  pub short : IsShort (state_in c) next 1048577

pub record ChecksLine (c : Checking) (line : List ℕ) (n : ℕ) (result : Result Checking Stop)
    (old new : Option (List ℕ)) (before now : ℕ) : Type 0 where
  pub ok : IfOk result (λ next. Does (state_in c) n line (Ok (state_in next)) × IsGood (state_in next))
  pub kept : OnOk result ((new ≡ old) × (now ≡ before))
  pub err : IfErr result (λ e. (ended : Bool) (rest : List Item) (tally : ℕ)
      → Tells (IsCheckedFrom ended (state_in c) n (Line line ∷ rest)) (status_of e) old new before now tally tally)
