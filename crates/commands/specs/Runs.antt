-- What a run over an input has done.
--     status_in result      the status with which it ends, where requests are answered
--     IsWholeAlone c input text status asked      this is written for the whole input, and nothing else
--     FinishesRequests c left written written' tally tally' status      it was written, and the tally grew by its steps
--     Finishes work left written written' tally tally' status      the output was written, there is no other, and the
--         tally grew by its steps
--     Ran work status ..      what is known of a run, by its status; of the source the bytes left and the count of
--         faults, before and now; of the sink the bytes written and the count; and the tally
use Rattle.std.specs.Prelude.{◌≡◌, ℕ, ◌+◌, ◌≤◌, ◌⊎◌, true, List, Option, Result, Ok, Err}
use Rattle.ports.specs.Bytes.{AllTaken, WritesAll}
use Rattle.ports.specs.Faults.{Rose}
use Rattle.commands.specs.declared.stop.Stop.{Stop}
use Rattle.commands.specs.Words.{Work, is_reading}
use Rattle.commands.specs.declared.command.ScriptCommand.{ScriptCommand}
use Rattle.commands.specs.Calls.{IsLeft, AnswersLines, StopsWithin}
use Rattle.commands.specs.Output.{Asked, IsWhole, IsOutput, steps_of}
use Rattle.commands.specs.Statuses.{status_of}

abbrev pub status_in : {A : Type 0} → Result A Stop → ℕ
status_in (Ok x) = 0
status_in (Err e) = status_of e

pub record IsWholeAlone (c : ScriptCommand) (input text : List ℕ) (status : ℕ) (asked : Asked) : Type 0 where
  pub is : IsWhole c input text status asked
  pub only : (t : List ℕ) (s : ℕ) (a : Asked) → IsWhole c input t s a → (t ≡ text) × (s ≡ status) × (a ≡ asked)

pub record FinishesRequests (c : ScriptCommand) (left written written' : Option (List ℕ)) (tally tally' status : ℕ) :
    Type 0 where
  pub input : List ℕ
  pub is_left : IsLeft left input
  pub text : List ℕ
  pub asked : Asked
  pub output : IsWholeAlone c input text status asked
  pub writes : WritesAll written written' text
  pub spends : tally' ≡ tally + steps_of c asked

pub record Finishes (work : Option Work) (left written written' : Option (List ℕ)) (tally tally' status : ℕ) : Type 0
  where
    pub input : List ℕ
    pub is_left : IsLeft left input
    pub text : List ℕ
    pub steps : ℕ
    pub output : IsOutput work input text status steps
    pub only : (t : List ℕ) (s n : ℕ) → IsOutput work input t s n
        → (t ≡ text) × (s ≡ status) × (n ≡ steps)
    pub writes : WritesAll written written' text
    pub spends : tally' ≡ tally + steps

pub record Ran (work : Option Work) (status : ℕ) (left left' : Option (List ℕ)) (read read' : ℕ)
    (written written' : Option (List ℕ)) (wrote wrote' tally tally' : ℕ) : Type 0 where
  pub whole : (status ≤ 2) ⊎ (status ≡ 6) → Finishes work left written written' tally tally' status
  pub end : (status ≡ 0) ⊎ (status ≡ 6) → is_reading work ≡ true → AllTaken left'
  pub read_fault : status ≡ 3 → Rose read read'
  pub write_fault : status ≡ 4 → Rose wrote wrote'
  pub answers : status ≡ 3 → AnswersLines work left left' written written' tally tally'
  pub part : (status ≡ 4) ⊎ (status ≡ 5) → StopsWithin work left left' written written' tally tally'
  pub low : status ≤ 6
  pub source_faults : read ≤ read'
  pub sink_faults : wrote ≤ wrote'
