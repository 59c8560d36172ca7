-- What is written of the rows of a job's input is the one text of its value.
use Rattle.std.proofs.Common.{◌≡◌, ℕ, suc, ◌<◌, ◌≤◌, List, [], length, take, get_or, refl, sym, ◌∙◌, ap, subst, arith}
use Rattle.std.proofs.lemmas.List.{length-map, length-take-le, get_or-map, get_or-take}
use Rattle.ps_model.specs.AcceptedJob.{IsAccepted}
use Rattle.ps_model.specs.InputText.{input_text}
use Rattle.ps_model.specs.Polynomial.{Polynomial}
use Rattle.ps_model.specs.Ring.{Ring as PolynomialRing}
use Rattle.ps_model.specs.Rows.{IsRowOf}
use Rattle.ps_model.specs.SeriesRing.{SeriesRing, ring as ring_of, degree, Poly}
use Rattle.ps_model.specs.Tree.{formal_degree}
use Rattle.ps_model.specs.Truncation.{truncated}
use Rattle.ps_model.specs.Value.{variable, IsValue}
use Rattle.ps_model.specs.declared.job.JobData.{JobData}
use Rattle.ps_model.proofs.GivenValues.{given_powers}
use Rattle.ps_model.proofs.InputValues.{valid_value}
use Rattle.ps_model.proofs.JobRoots.{valid_input, valid_small}
use Rattle.ps_model.proofs.SliceValues.{slice_at-truncated}
use Rattle.ps_model.proofs.TreeValues.{value-truncated, value_within, variable_flat}
use Rattle.parts.specs.JobRows.{IsRingOf}
use Rattle.parts.specs.PartValue.{PartValue}
use Rattle.parts.specs.RowsOfParts.{AreRowsOfParts}
use Rattle.parts.specs.Series.{series, row_maps, rows_maps, polynomial_of}
use Rattle.parts.specs.declared.rings.Ring.{Ring}
use Rattle.stages.proofs.RowPairs.{AreRowsFor, together}
use Rattle.expr_reader.specs.NameLists.{as_names}
use Rattle.printer.specs.Rows.{row_in}
use Rattle.printer.specs.Texts.{degree_of}
use Rattle.script.specs.Script.{Has}
use Rattle.script.specs.declared.request.Request.TheVariants.{Show}
use Rattle.session.specs.Factors.{job_in}
use Rattle.session.proofs.JobRings.{same_job, accepted_in}
use Rattle.commands.specs.Answering.{AnswersOnly}
use Rattle.commands.specs.Expandings.{AreValueRows}
use Rattle.commands.specs.Replies.{IsInput}
use Rattle.commands.specs.declared.command.ScriptCommand.TheVariants.{Expand}

row_whole : (R : PolynomialRing) (K r : ℕ) (p : Polynomial R) (row : _) → IsRowOf K r (truncated R R.degree r p) row
    → IsRowOf K r p row
row_whole R K r p row is = record {
  places = is.places;
  slices = λ j le. is.slices j le ∙ slice_at-truncated R r r j p (omega arith);
}

module _ (ring : Ring) (job : JobData) (is_ring : IsRingOf ring job) (ok : IsAccepted job)
    (rows : List (List PartValue)) (are : AreValueRows job rows) where
  abbrev K : ℕ
  K = formal_degree job.expr

  abbrev S : SeriesRing
  S = series ring

  pub parts_are : AreRowsOfParts ring K rows
  parts_are r lt = (are r lt).parts ring is_ring

  pub low_degree : K ≤ 32
  low_degree = valid_small job ok.valid

  module _ (D : ℕ) (lt : D < length rows) where
    pub degree_is : degree_of rows ≡ K
    degree_is = let places = (parts_are 0 (omega arith)).places in omega arith

    pub rows_written : AreRowsOfParts ring (degree_of rows) rows
    rows_written = subst (λ k. AreRowsOfParts ring k rows) (sym degree_is) parts_are

    abbrev put_together : Poly S
    put_together = polynomial_of ring (take (suc D) rows)

    module _ (v : Poly S) (is : IsValue S D job.expr v) where
      row_is : (r : ℕ) → r ≤ D → IsRowOf K r v (row_maps ring (row_in rows r))
      row_is r le = row_whole (ring_of S) K r v (row_maps ring (row_in rows r))
          ((are r (omega arith)).slices ring is_ring (truncated (ring_of S) (degree S) r v)
          (value-truncated S (variable S) r D le job.expr v is))

      there : (r : ℕ) → r < suc D → get_or (rows_maps ring (take (suc D) rows)) r [] ≡ row_maps ring (row_in rows r)
      there r low = get_or-map (row_maps ring) (take (suc D) rows) r [] []
          (let long = length-take-le (suc D) rows lt in omega arith)
          ∙ ap (row_maps ring) (get_or-take (suc D) rows r [] low)

      rows_for : AreRowsFor (ring_of S) K (suc D) v (rows_maps ring (take (suc D) rows))
      rows_for = record {
        count = length-map (take (suc D) rows) (row_maps ring) ∙ length-take-le (suc D) rows lt;
        row = λ r low. subst (IsRowOf K r v) (sym (there r low)) (row_is r (omega arith));
      }

      -- the rows are those of the value
      value_is : put_together ≡ v
      value_is = together (ring_of S) K D v (rows_maps ring (take (suc D) rows)) rows_for
          (given_powers S (variable S) job.n (λ i low. variable_flat S i) D job.expr v ok.tree is)
          (value_within S (variable S) D job.expr v is)

    module _ (names : List (List ℕ)) where
      abbrev text : List ℕ
      text = input_text S names K put_together D

      is_input : IsInput names job D text
      is_input =
          let one = valid_value S job.expr (valid_input (job_in ring job) (accepted_in ring job is_ring ok).valid)
          job.n ok.tree D in
          subst (λ (j : JobData). IsInput names j D text) (same_job ring job is_ring)
          (put_together, subst (IsValue S D job.expr) (sym (value_is one.one_value one.meets)) one.meets, refl)

      no_other : (other : List ℕ) → IsInput names job D other → other ≡ text
      no_other = subst (λ (j : JobData). (other : List ℕ) → IsInput names j D other → other ≡ text)
          (same_job ring job is_ring)
          (λ other (v, is, at). at ∙ ap (λ p. input_text S names K p D) (sym (value_is v is)))

    pub input_answers : (names : List (List ℕ)) → as_names names ≡ names → AnswersOnly Expand (Has names job) (Show D)
        (input_text S (as_names names) (degree_of rows) put_together D)
    input_answers names named = subst (λ (l : List ℕ). AnswersOnly Expand (Has names job) (Show D) l)
        (λ i. input_text S (sym named i) (sym degree_is i) put_together D) (is_input names, no_other names)
