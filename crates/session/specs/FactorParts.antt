-- The homogeneous parts of a job's factors.
--     factor_of job i fs      the factor at place i of a list of factors, 0 past its end
--     IsFactorPart job i j r p      p has degree r, it is a part of the job's ring, and for each list of
--         factors of the job up to degree r it is the slice of factor i at Y^j
use Rattle.std.specs.Prelude.{◌≡◌, ℕ, List, slice_index_or}
use Rattle.ps_model.specs.declared.job.JobData.{JobData}
use Rattle.ps_model.specs.Job.{job_ring, IsFactors}
use Rattle.ps_model.specs.Notation.{zero, slice_at}
use Rattle.ps_model.specs.SeriesRing.{Poly}
use Rattle.parts.specs.declared.rings.Ring.{Ring}
use Rattle.parts.specs.JobRows.{IsRingOf}
use Rattle.parts.specs.PartValue.{PartValue, IsPartOf}
use Rattle.parts.specs.Series.{polynomial_modulo}

abbrev pub factor_of : (job : JobData) → ℕ → List (Poly (job_ring job)) → Poly (job_ring job)
factor_of job i fs = slice_index_or fs i zero

pub record IsFactorPart (job : JobData) (i j r : ℕ) (p : PartValue) : Type 0 where
  pub degree : p.degree ≡ r
  pub parts : (ring : Ring) → IsRingOf ring job → IsPartOf ring p
  pub slices : (fs : List (Poly (job_ring job))) → IsFactors job r fs
      → polynomial_modulo job.modulus job.weights p.map ≡ slice_at r j (factor_of job i fs)
