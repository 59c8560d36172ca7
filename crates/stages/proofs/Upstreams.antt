-- What a stage takes: the row of the job's polynomial, or what the stage before it leaves.
use Rattle.std.proofs.Common.{◌≡◌, ℕ, suc, ◌-◌, ◌<◌, List, sym, subst, arith}
use Rattle.ps_model.specs.AcceptedJob.{IsAccepted}
use Rattle.ps_model.specs.declared.job.JobData.{JobData}
use Rattle.ps_model.specs.Factors.{total_times, product_from}
use Rattle.ps_model.specs.Rows.{IsRowOf}
use Rattle.ps_model.specs.Tree.{formal_degree}
use Rattle.ps_model.proofs.JobFactors.{product_is_input}
use Rattle.ps_model.proofs.JobRoots.{valid_degree}
use Rattle.parts.specs.JobRows.{IsInputRow, AreJobParts}
use Rattle.parts.specs.PartValue.{PartValue}
use Rattle.parts.specs.Series.{maps_modulo}
use Rattle.stages.specs.Items.{StageItemValue, IsItem}
use Rattle.stages.specs.Slices.{IsUpstream}
use Rattle.stages.specs.Titles.{TitleValue}

-- the first stage takes the row of the polynomial
pub input_upstream : (job : JobData) (r : ℕ) (row : List PartValue) → IsAccepted job → IsInputRow job r row
    → IsUpstream job 0 r row
input_upstream job r row ok is = record {
  parts = subst (λ K. AreJobParts job K r row) degree is.parts;
  slices = λ fs factors. subst (λ K. IsRowOf K r (product_from r 0 fs) (maps_modulo job.modulus job.weights row)) degree
      (is.slices (product_from r 0 fs) (product_is_input job r fs factors));
}
  where
    degree : formal_degree job.expr ≡ total_times job.roots
    degree = valid_degree job ok.valid

-- a later one what is left
pub left_upstream : (job : JobData) (s r : ℕ) (item : StageItemValue) → 0 < s
    → IsItem (record { job = job; stage = s - 1 }) r item → IsUpstream job s r item.left
left_upstream job s r item some is = subst (λ t. IsUpstream job t r item.left) next is.left
  where
    next : suc (s - 1) ≡ s
    next = omega arith

-- a stage with this title takes it as its next row
pub next_upstream : (job : JobData) (s r : ℕ) (row : List PartValue) (title : TitleValue) (count : ℕ)
    → title ≡ record { job = job; stage = s } → count ≡ r → IsUpstream job s r row
    → IsUpstream title.job title.stage count row
next_upstream job s r row title count same here up =
    subst (λ n. IsUpstream title.job title.stage n row) (sym here)
    (subst (λ t. IsUpstream t.job t.stage r row) (sym same) up)

-- at the first place
pub first_upstream : (job : JobData) (s r : ℕ) (row : List PartValue) → s ≡ 0 → IsAccepted job → IsInputRow job r row
    → IsUpstream job s r row
first_upstream job s r row first ok is =
    subst (λ t. IsUpstream job t r row) (sym first) (input_upstream job r row ok is)
