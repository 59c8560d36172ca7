-- A job whose rows are extended for a request: what is written of them answers it.
use Rattle.std.proofs.Common.{◌≡◌, ℕ, suc, ◌<◌, ◌≤◌, List, length, take, sym, ◌∙◌, ap, subst, arith}
use Rattle.std.proofs.lemmas.List.{length-map}
use Rattle.ps_model.specs.InputText.{input_text}
use Rattle.ps_model.specs.declared.job.JobData.{JobData}
use Rattle.parts.specs.JobRows.{IsRingOf}
use Rattle.parts.specs.PartValue.{PartValue}
use Rattle.parts.specs.RowsOfParts.{parts_of, parts_in, AreRowsOfParts}
use Rattle.parts.specs.Series.{series, polynomial_of}
use Rattle.parts.specs.declared.rings.Ring.{Ring}
use Rattle.expr_reader.specs.NameLists.{as_names}
use Rattle.intake.specs.Jobs.{JobValue}
use Rattle.printer.specs.Texts.{degree_of}
use Rattle.script.specs.Script.{Has}
use Rattle.script.specs.declared.request.Request.TheVariants.{Show}
use Rattle.commands.specs.Answering.{AnswersOnly, ExpandingValue}
use Rattle.commands.specs.Expandings.{expanding_of, AreValueRows, IsExpanding}
use Rattle.commands.specs.declared.command.ScriptCommand.TheVariants.{Expand}
use Rattle.commands.proofs.InputTexts.{low_degree, degree_is, rows_written, input_answers}
use Rattle.commands.proofs.RowsExtended.{RowVec}

-- the job, whose rows were old and are now the last ones
module _ (job : JobValue) (old : List (List PartValue)) (rows now : List RowVec) (input other : JobData)
    (holds : IsExpanding job old) (same : input ≡ other) (stays : other ≡ job.job)
    (are : AreValueRows other (parts_in rows)) (few : length rows ≤ 4096) (is : now ≡ rows) where
  abbrev after : JobValue
  after = record { names = job.names; job = input }

  abbrev seen_rows : List (List PartValue)
  seen_rows = parts_in now

  count : length seen_rows ≡ length rows
  count = length-map now (λ (v : RowVec). parts_of v.items) ∙ ap (λ (l : List RowVec). length l) is

  pub held : IsExpanding after seen_rows
  held = subst (λ (j : JobData). IsExpanding (record { names = job.names; job = j }) seen_rows) (sym (same ∙ stays))
      (record {
        accepted = holds.accepted;
        count = holds.count;
        named = holds.named;
        are_rows = subst (λ (l : List RowVec). AreValueRows job.job (parts_in l)) (sym is)
            (subst (λ (j : JobData). AreValueRows j (parts_in rows)) stays are);
        few = let long = count in omega arith;
      })

  module _ (ring : Ring) (is_ring : IsRingOf ring input) (D : ℕ) (lt : D < length rows) where
    there : D < length seen_rows
    there = let long = count in omega arith

    pub written_rows : AreRowsOfParts ring (degree_of seen_rows) seen_rows
    written_rows = rows_written ring input is_ring held.accepted seen_rows held.are_rows D there

    pub written_low : degree_of seen_rows ≤ 32
    written_low =
        let degree = degree_is ring input is_ring held.accepted seen_rows held.are_rows D there in
        let low = low_degree ring input is_ring held.accepted seen_rows held.are_rows in
        omega arith

    pub written_answers : (v : ExpandingValue) (names : List (List ℕ)) → expanding_of job ≡ v → names ≡ job.names
        → AnswersOnly Expand (Has v.names v.job) (Show D) (input_text (series ring) (as_names names)
        (degree_of seen_rows) (polynomial_of ring (take (suc D) seen_rows)) D)
    written_answers v names seen same_names =
        subst (λ (l : List (List ℕ)). AnswersOnly Expand (Has v.names v.job) (Show D)
        (input_text (series ring) (as_names l) (degree_of seen_rows) (polynomial_of ring (take (suc D) seen_rows)) D))
        (sym same_names)
        (subst (λ (u : ExpandingValue). AnswersOnly Expand (Has u.names u.job) (Show D) (input_text (series ring)
        (as_names job.names) (degree_of seen_rows) (polynomial_of ring (take (suc D) seen_rows)) D))
        ((λ i. record { names = job.names; job = (same ∙ stays) i }) ∙ seen)
        (input_answers ring input is_ring held.accepted seen_rows held.are_rows D there job.names held.named))
