-- How far a run has come.
--     Done c l r .. items      this was written for the items, nothing else is, and it took these steps; the reading r
--         is behind them, and the bytes that were pulled so far were taken from the source. Of the source the bytes left
--         at the start and now, of the sink the bytes written, and the tally
--     SoFar c l r ..      so it is with all items up to the last line
--     IsAsked c l r .. q      so it is with all before the last line, which asks for this
--     outcome_by asked      what a line does that asks for this, or for nothing
--     AsksLine c ring line n result ..      the line, behind a header, asks for this and nothing was written; else it
--         is refused, and the line that tells it was written, or a beginning
--     Comes c l r result ..      Ok: a request, of which only the answer is due, or the run is at its end; an error: it
--         ends with it
--     IsNext c ring old new result ..      that is what follows wherever a run has come to
--     Begins c l result ..      Ok: the job of the header, of which nothing was asked for; an error: the run ends with it
use Rattle.std.specs.Prelude.{◌≡◌, ℕ, ◌+◌, ◌≤◌, true, List, [], ◌∷◌, ◌++◌, Option, Some, None, Result, Ok, Err}
use Rattle.std.specs.Prelude.{IfOk, IfErr}
use Rattle.ports.specs.Bytes.{WritesAll, TakesBytes, AllTaken}
use Rattle.ports.specs.Reading as lines
use Rattle.parts.specs.declared.rings.Ring.{Ring}
use Rattle.intake.specs.Jobs.{JobValue}
use Rattle.script.specs.Answers.{Item, Line, Outcome, Skips, Asks}
use Rattle.script.specs.Answers as script
use Rattle.script.specs.Header.{Empty}
use Rattle.script.specs.Refusals.{line_refused}
use Rattle.script.specs.Script.{State, Begun}
use Rattle.script.specs.declared.refusal.Refusal.{Refusal}
use Rattle.script.specs.declared.request.Request.{Request}
use Rattle.script.proofs.Items.{Consumed}
use Rattle.commands.specs.declared.stop.Stop.{Stop}
use Rattle.commands.specs.declared.command.ScriptCommand.{ScriptCommand}
use Rattle.commands.specs.Answering.{AreOnly, DoesOnly}
use Rattle.commands.specs.Lines.{Accounts, Refuses}
use Rattle.commands.specs.Output.{Asked}
use Rattle.commands.specs.Readings.{Reading, state_in, spent_of, IsReading, opened, HasRing, IsAllowed}
use Rattle.commands.specs.Runs.{Ran}
use Rattle.commands.specs.Statuses.{status_of}
use Rattle.commands.specs.Words.{Script}

module _ (c : ScriptCommand) (l : lines.Reading) (r : Reading) (left left' written written' : Option (List ℕ))
    (tally tally' : ℕ) where
  pub record Done (items : List Item) : Type 0 where
    pub text : List ℕ
    pub asked : Asked
    pub path : AreOnly c (Begun Empty) 1 items text (Some (state_in r)) asked
    pub writes : WritesAll written written' text
    pub reads : IsReading c r
    pub accounts : Accounts c r asked
    pub spends : tally' ≡ tally + spent_of r
    pub taken : TakesBytes left left' l.pulled
    pub ended : l.ended ≡ true → AllTaken left'

  pub record SoFar : Type 0 where
    pub items : List Item
    pub done : Done items
    pub consumed : Consumed l items
    pub few : l.number ≤ l.place

  pub record IsAsked (q : Request) : Type 0 where
    pub items : List Item
    pub done : Done items
    pub consumed : Consumed l (items ++ Line l.text ∷ [])
    pub few : l.number ≤ l.place
    pub does : DoesOnly c (state_in r) l.text (Asks q)
    pub allowed : IsAllowed q r

abbrev pub outcome_by : Option Request → Outcome State Request
outcome_by None = Skips
outcome_by (Some q) = Asks q

abbrev pub AllowsAsked : Option Request → Reading → Type 0
AllowsAsked None r = Unit {0}
AllowsAsked (Some q) r = IsAllowed q r

pub record AsksLine (c : ScriptCommand) (ring : Ring) (line : List ℕ) (n : ℕ) (result : Result (Option Request) Stop)
    (old new : Option (List ℕ)) (before now : ℕ) : Type 0 where
  pub ok : IfOk result (λ asked. (r : Reading) → HasRing ring r → IsReading c r
      → DoesOnly c (state_in r) line (outcome_by asked) × AllowsAsked asked r × (new ≡ old) × (now ≡ before))
  pub err : IfErr result (λ e. (r : Reading) → HasRing ring r → IsReading c r
      → (f : Refusal) × DoesOnly c (state_in r) line (script.Refuses f)
      × Refuses e old new before now (line_refused n f))
  pub faults : before ≤ now

abbrev pub Comes : ScriptCommand → lines.Reading → Reading → Result (Option Request) Stop → (left left' : Option (List ℕ))
    → (read read' : ℕ) → (written written' : Option (List ℕ)) → (wrote wrote' tally tally' : ℕ) → Type 0
Comes c l r (Ok (Some q)) left left' read read' written written' wrote wrote' tally tally' =
    IsAsked c l r left left' written written' tally tally' q
Comes c l r (Ok None) left left' read read' written written' wrote wrote' tally tally' =
    Ran (Some (Script c)) 0 left left' read read' written written' wrote wrote' tally tally'
Comes c l r (Err e) left left' read read' written written' wrote wrote' tally tally' =
    Ran (Some (Script c)) (status_of e) left left' read read' written written' wrote wrote' tally tally'

pub record IsNext (c : ScriptCommand) (ring : Ring) (old new : lines.Reading) (result : Result (Option Request) Stop)
    (mid left' : Option (List ℕ)) (mid_read read' : ℕ) (mid_written written' : Option (List ℕ)) (mid_wrote wrote' : ℕ) :
    Type 0 where
  pub follows : (r : Reading) (left written : Option (List ℕ)) (read wrote tally tally' : ℕ) → HasRing ring r
      → read ≤ mid_read → wrote ≤ mid_wrote → SoFar c old r left mid written mid_written tally tally'
      → Comes c new r result left left' read read' written written' wrote wrote' tally tally'
  pub source_faults : mid_read ≤ read'
  pub sink_faults : mid_wrote ≤ wrote'

abbrev pub Begins : ScriptCommand → lines.Reading → Result JobValue Stop → (left left' : Option (List ℕ))
    → (read read' : ℕ) → (written written' : Option (List ℕ)) → (wrote wrote' tally : ℕ) → Type 0
Begins c l (Ok job) left left' read read' written written' wrote wrote' tally =
    SoFar c l (opened c job.names job.job) left left' written written' tally tally
Begins c l (Err e) left left' read read' written written' wrote wrote' tally =
    Ran (Some (Script c)) (status_of e) left left' read read' written written' wrote wrote' tally tally
