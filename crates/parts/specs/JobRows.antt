-- Rows of parts of a job.
--     IsPermitted ws d      the degree d may be asked for with variables of the weights ws
--     IsRingOf ring job      the ring has the job's modulus, its number of variables and its weights
--     AreJobParts job K r row      of degree r a part for each power of Y from 0 to K, of the job's ring
--     IsInputRow job r row      the parts of degree r of the job's monic input, by power of Y from 0 to the
--         formal degree
use Rattle.std.specs.Prelude.{◌≡◌, ℕ, ◌≤◌, List}
use Rattle.ps_model.specs.declared.job.JobData.{JobData}
use Rattle.ps_model.specs.Job.{job_ring}
use Rattle.ps_model.specs.Rows.{IsRowOf}
use Rattle.ps_model.specs.SeriesRing.{Poly}
use Rattle.ps_model.specs.Tree.{formal_degree}
use Rattle.ps_model.specs.Lead.{IsMonicInput}
use Rattle.parts.specs.declared.rings.Ring.{Ring}
use Rattle.parts.specs.Counting.{monomials_up_to}
use Rattle.parts.specs.PartValue.{PartValue}
use Rattle.parts.specs.Rings.{modulus_of, variables_of, eight_weights}
use Rattle.parts.specs.RowsOfParts.{IsRowOfParts}
use Rattle.parts.specs.Series.{maps_modulo}

-- there are at most 32768 monomials up to degree d, which is at most 4095
abbrev pub IsPermitted : List ℕ → ℕ → Type 0
IsPermitted ws d = (d ≤ 4095) × (monomials_up_to ws d ≤ 32768)

-- the ring in which a job's parts are
abbrev pub IsRingOf : Ring → JobData → Type 0
IsRingOf ring job =
    (modulus_of ring ≡ job.modulus) × (variables_of ring ≡ job.n) × (eight_weights ring ≡ job.weights)

-- parts of degree r of the job's ring, for the powers of Y up to K
abbrev pub AreJobParts : JobData → ℕ → ℕ → List PartValue → Type 0
AreJobParts job K r row = (ring : Ring) → IsRingOf ring job → IsRowOfParts ring K r row

-- the parts of degree r of the polynomial that times the lead is what the job's tree stands for
pub record IsInputRow (job : JobData) (r : ℕ) (row : List PartValue) : Type 0 where
  pub parts : AreJobParts job (formal_degree job.expr) r row
  pub slices : (q : Poly (job_ring job)) → IsMonicInput (job_ring job) r job.expr q →
      IsRowOf (formal_degree job.expr) r q (maps_modulo job.modulus job.weights row)
