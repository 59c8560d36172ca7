-- What contracts see of a job.
--     JobValue      the names, and the job as data
--     data_of m names ws e roots      the data of the job that these make
--     data_with input roots      those of an input and roots
--     IsOriginRow input row      the coefficients of the powers of Y, from Y^0 to the formal degree, of the
--         input's value at the origin
--     HasSlots ring formulas e slots      the slots are those of e's value
--     HasMonicSlots ring formulas e slots      they are those of what times the lead is e's value
--     HoldsRows ring job has_lead graph input monic      the graph has the slots of both in the job's ring, and
--         has_lead says whether the lead is shown
--     IsValueRowOf job r row      the parts of degree r of what the job's tree stands for, by power of Y
--     IsLeadPartOf job r p      the part of degree r of its lead
use Rattle.std.specs.Prelude.{◌≡◌, ◌↔◌, ℕ, suc, ◌<◌, ◌≤◌, Bool, IsTrue, List, length}
use Rattle.std.proofs.Common.{refl}
use Rattle.std.specs.Coded.{Coded, code_by, coded×, coded_ℕ, coded_list}
use Rattle.std.specs.List.{All}
use Rattle.ps_model.specs.declared.expr.Expr.{Expr}
use Rattle.ps_model.specs.declared.job.JobData.{JobData}
use Rattle.ps_model.specs.declared.job.Root.{Root}
use Rattle.ps_model.specs.contracts.job.JobData.{the_row}
use Rattle.ps_model.specs.Input.{IsValidInput}
use Rattle.ps_model.specs.Lead.{IsLead, IsLeadShown, IsMonicInput}
use Rattle.ps_model.specs.Notation.{homogeneous_part}
use Rattle.ps_model.specs.Rows.{IsRowOf}
use Rattle.ps_model.specs.SeriesRing.{Poly}
use Rattle.ps_model.specs.Tree.{IsValidTree, formal_degree}
use Rattle.ps_model.specs.Value.{IsValue}
use Rattle.parts.specs.JobRows.{IsRingOf}
use Rattle.parts.specs.PartValue.{PartValue}
use Rattle.parts.specs.Rings.{modulus_of, eight_weights}
use Rattle.parts.specs.RowsOfParts.{IsRowOfParts}
use Rattle.parts.specs.Series.{series, polynomial_in, row_maps}
use Rattle.parts.specs.declared.rings.Ring.{Ring}
use Rattle.series_graph.specs.Formula.{Formula}
use Rattle.series_graph.specs.GraphValue.{GraphValue}
use Rattle.series_graph.specs.declared.node.NodeId.{NodeId}
use Rattle.units.specs.SeriesParts.{IsPartAt}
use Rattle.intake.specs.Differences.{AreCoefficients}
use Rattle.intake.specs.InputValue.{InputValue}
use Rattle.intake.specs.Slots.{AreIn, Mean}

pub record JobValue : Type 0 where
  pub names : List (List ℕ)
  pub job : JobData

abbrev pub job_code : Coded JobValue
job_code = code_by (List (List ℕ) × JobData) (coded× (coded_list (coded_list coded_ℕ)) the_row.coded)
    (λ v. (v.names, v.job)) (λ p. record { names = p.0; job = p.1 }) (λ _. refl)

abbrev pub data_of : ℕ → List (List ℕ) → List ℕ → Expr → List Root → JobData
data_of m names ws e roots = record { modulus = m; n = length names; weights = ws; expr = e; roots = roots }

abbrev pub data_with : InputValue → List Root → JobData
data_with input roots =
    data_of (modulus_of input.ring) input.names (eight_weights input.ring) input.expr roots

pub record IsOriginRow (input : InputValue) (row : List ℕ) : Type 0 where
  pub tree : IsValidTree (length input.names) input.expr
  pub valid : IsValidInput (series input.ring) input.expr
  pub count : length row ≡ suc (formal_degree input.expr)
  pub residues : All (λ c. c < modulus_of input.ring) row
  pub coefficients : (v : Poly (series input.ring)) → IsValue (series input.ring) 0 input.expr v
      → AreCoefficients (modulus_of input.ring) (eight_weights input.ring) row v

pub record HasSlots (ring : Ring) (formulas : List Formula) (e : Expr) (slots : List NodeId) : Type 0 where
  pub count : length slots ≡ suc (formal_degree e)
  pub mean : (D : ℕ) (v : Poly (series ring)) → IsValue (series ring) D e v → Mean (series ring) D formulas slots v

pub record HasMonicSlots (ring : Ring) (formulas : List Formula) (e : Expr) (slots : List NodeId) : Type 0 where
  pub count : length slots ≡ suc (formal_degree e)
  pub mean : (D : ℕ) (q : Poly (series ring)) → IsMonicInput (series ring) D e q
      → Mean (series ring) D formulas slots q

pub record HoldsRows (ring : Ring) (job : JobData) (has_lead : Bool) (graph : GraphValue) (input monic : List NodeId) :
    Type 0 where
  pub ring_is : IsRingOf ring job
  pub graph_ring : graph.ring ≡ ring
  pub small : formal_degree job.expr ≤ 32
  pub input_in : AreIn graph input
  pub monic_in : AreIn graph monic
  pub input_slots : HasSlots ring graph.formulas job.expr input
  pub monic_slots : HasMonicSlots ring graph.formulas job.expr monic
  pub shown : IsTrue has_lead ↔ IsLeadShown (series ring) job.expr

pub record IsValueRowOf (job : JobData) (r : ℕ) (row : List PartValue) : Type 0 where
  pub parts : (ring : Ring) → IsRingOf ring job → IsRowOfParts ring (formal_degree job.expr) r row
  pub slices : (ring : Ring) → IsRingOf ring job → (v : Poly (series ring)) → IsValue (series ring) r job.expr v
      → IsRowOf (formal_degree job.expr) r v (row_maps ring row)

pub record IsLeadPartOf (job : JobData) (r : ℕ) (p : PartValue) : Type 0 where
  pub part : (ring : Ring) → IsRingOf ring job → IsPartAt ring r p
  pub is_part : (ring : Ring) → IsRingOf ring job → (l : Poly (series ring)) → IsLead (series ring) r job.expr l
      → polynomial_in ring p.map ≡ homogeneous_part r l
