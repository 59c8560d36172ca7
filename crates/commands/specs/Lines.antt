-- What the lines of a script do, which is read line by line.
--     Accounts c r asked      these requests were asked for so far
--     HasCause e before now      a fault of the sink is answered only where one was counted
--     Refuses e old new before now text      the line of a refusal was written, or a beginning of it
--     Steps c r line n next ..      the line was done as it must be, and next is behind it
--     AnswersLine c r line n result ..      Ok: that; a refusal: the line that tells it was written; else a beginning
--     EndsReading r result ..      Ok: nothing is missing where the input ends; else what is was told, or a beginning
use Rattle.std.specs.Prelude.{◌≡◌, ℕ, ◌+◌, ◌≤◌, List, [], ◌∷◌, ◌++◌, Option, Some, None}
use Rattle.std.specs.Prelude.{Result, Err, OnOk, OnErr, IfOk, IfErr}
use Rattle.std.specs.List.{All}
use Rattle.ports.specs.Bytes.{WritesAll}
use Rattle.ports.specs.Faults.{Rose}
use Rattle.script.specs.Answers.{Line}
use Rattle.script.specs.Refusals.{end_refused}
use Rattle.script.specs.Script.{State, Has, missing}
use Rattle.script.specs.declared.refusal.Refusal.{Refusal}
use Rattle.commands.specs.Readings.{Reading, Begun, Factors, Inputs, state_in, spent_of, IsReading}
use Rattle.commands.specs.declared.stop.Stop.{Stop}
use Rattle.commands.specs.declared.stop.Stop.TheVariants.{Refused, ReadFault, WriteFault, OutOfMemory}
use Rattle.commands.specs.declared.command.ScriptCommand.{ScriptCommand}
use Rattle.commands.specs.declared.command.ScriptCommand.TheVariants.{Factor, Expand}
use Rattle.commands.specs.Answering.{AreOnly, MayBe}
use Rattle.commands.specs.Calls.{WritesBeginning}
use Rattle.commands.specs.Output.{Asked, degrees_of, steps_of}

abbrev pub Accounts : ScriptCommand → Reading → Asked → Type 0
Accounts c (Begun h) asked = asked ≡ []
Accounts c (Factors f) asked =
    (c ≡ Factor) × (f.degrees ≡ degrees_of asked) × All (λ p. p.0 ≡ Has f.names f.job) asked
Accounts c (Inputs e) asked = c ≡ Expand

abbrev pub HasCause : Stop → ℕ → ℕ → Type 0
HasCause Refused before now = Unit {0}
HasCause ReadFault before now = ⊥
HasCause WriteFault before now = Rose before now
HasCause OutOfMemory before now = Unit {0}

pub record Refuses (e : Stop) (old new : Option (List ℕ)) (before now : ℕ) (text : List ℕ) : Type 0 where
  pub refused : e ≡ Refused → WritesAll old new text
  pub part : WritesBeginning old new text
  pub cause : HasCause e before now
  pub faults : before ≤ now

pub record Steps (c : ScriptCommand) (r : Reading) (line : List ℕ) (n : ℕ) (next : Reading) (old new : Option (List ℕ))
    (tally tally' : ℕ) : Type 0 where
  pub text : List ℕ
  pub asked : Asked
  pub path : AreOnly c (state_in r) n (Line line ∷ []) text (Some (state_in next)) asked
  pub writes : WritesAll old new text
  pub reads : IsReading c next
  pub accounts : (earlier : Asked) → Accounts c r earlier → Accounts c next (earlier ++ asked)
  pub spends : tally' + spent_of r ≡ tally + spent_of next

pub record AnswersLine (c : ScriptCommand) (r : Reading) (line : List ℕ) (n : ℕ) (result : Result Reading Stop)
    (old new : Option (List ℕ)) (before now tally tally' : ℕ) : Type 0 where
  pub ok : IfOk result (λ next. Steps c r line n next old new tally tally')
  pub refused : result ≡ Err Refused
      → (text : List ℕ) × AreOnly c (state_in r) n (Line line ∷ []) text None []
      × WritesAll old new text × (tally' ≡ tally)
  pub part : OnErr result ((text : List ℕ) (after : Option State) (asked : Asked)
      → MayBe c (state_in r) n (Line line ∷ []) text after asked → WritesBeginning old new text)
  pub more : tally ≤ tally'
  pub at_most : OnErr result ((text : List ℕ) (after : Option State) (asked : Asked)
      → MayBe c (state_in r) n (Line line ∷ []) text after asked → (earlier : Asked) → Accounts c r earlier
      → tally' + spent_of r ≤ tally + steps_of c (earlier ++ asked))
  pub cause : IfErr result (λ e. HasCause e before now)
  pub faults : before ≤ now

pub record EndsReading (r : Reading) {A : Type 0} (result : Result A Stop) (old new : Option (List ℕ))
    (before now : ℕ) : Type 0 where
  pub ok : OnOk result ((missing (state_in r) ≡ None) × (new ≡ old))
  pub err : IfErr result (λ e. (f : Refusal) × (missing (state_in r) ≡ Some f)
      × Refuses e old new before now (end_refused f))
  pub faults : before ≤ now
