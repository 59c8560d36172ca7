-- Readers of the rows of a session.
use Rattle.std.proofs.Common.{◌≡◌, ℕ, ◌<◌, ◌≤◌, ◌⊎◌, inl, inr, List, [], length, get_or, None, sym, ◌∙◌, subst, arith}
use Rattle.std.proofs.lemmas.Bool.{cases_lt}
use Rattle.std.proofs.lemmas.List.{get_or_past}
use Rattle.ps_model.specs.declared.job.JobData.{JobData}
use Rattle.parts.specs.declared.rings.Ring.{Ring}
use Rattle.stages.specs.Lines.{OfStage, AreKept}
use Rattle.stages.specs.States.{StageState, KeepsStage}
use Rattle.pipe.specs.Looks.{ReaderState}
use Rattle.session.specs.Calls.{KeepsSession}
use Rattle.session.specs.Sessions.{SessionState}
use Rattle.session.specs.Shared.{IsReaderOf}

-- the stage past the last
pub blank_stage : JobData → Ring → StageState
blank_stage job ring = record {
  title = record { job = job; stage = 0 };
  ring = ring;
  capacity = 0;
  name = [];
  items = [];
  preparation = None;
}

kept_reader : (old new : StageState) (reader : ReaderState) → KeepsStage old new → IsReaderOf old reader → IsReaderOf new reader
kept_reader old new reader kept read = record {
  title = read.title ∙ sym kept.title;
  name = read.name ∙ sym kept.name;
}

-- a session that is raised keeps its rows
pub still_read : (old new : SessionState) (i : ℕ) (reader : ReaderState) → KeepsSession old new
    → OfStage old.stages i (λ t. IsReaderOf t reader) → OfStage new.stages i (λ t. IsReaderOf t reader)
still_read old new i reader kept read d = elim (cases_lt i (length old.stages)) [
  | inl lt ↦
      kept_reader (get_or old.stages i d) (get_or new.stages i d) reader (kept.stages.each i d lt) (read d)
  | inr past ↦
      let count = kept.stages.count in
      let same = get_or_past old.stages i d past ∙ sym (get_or_past new.stages i d (omega arith)) in
      subst (λ t. IsReaderOf t reader) same (read d)
]

-- a session in which nothing changes
pub same_read : (old new : SessionState) (i : ℕ) (reader : ReaderState) → new ≡ old
    → OfStage old.stages i (λ t. IsReaderOf t reader) → OfStage new.stages i (λ t. IsReaderOf t reader)
same_read old new i reader same read = subst (λ s. OfStage s.stages i (λ t. IsReaderOf t reader)) (sym same) read
