-- Rows of parts that belong to a job's list of factors.
--     AreSlices job K r f row      the row has a part of degree r for each power of Y from 0 to K, and for
--         each list of factors of the job up to degree r they are the parts of f of that list
--     factor_at s fs      the factor of stage s
--     IsUpstream job s r row      the parts of degree r of the polynomial before stage s
--     HasShift ring c row out      out is the row of the polynomial with Y + c in place of Y
use Rattle.std.specs.Prelude.{ℕ, List, slice_index_or, drop}
use Rattle.ps_model.specs.declared.job.JobData.{JobData}
use Rattle.ps_model.specs.Factors.{total_times, product_from}
use Rattle.ps_model.specs.Job.{job_ring, IsFactors}
use Rattle.ps_model.specs.Notation.{zero}
use Rattle.ps_model.specs.Rows.{IsRowOf}
use Rattle.ps_model.specs.SeriesRing.{Poly}
use Rattle.ps_model.specs.Props.{IsRowOf-IsProp}
use Rattle.parts.specs.Props.{IsRowOfParts-IsProp}
use Rattle.parts.specs.declared.rings.Ring.{Ring}
use Rattle.parts.specs.JobRows.{AreJobParts}
use Rattle.parts.specs.RowsOfParts.{IsRowOfParts}
use Rattle.taylor.specs.Shifts.{IsShiftedRow}
use Rattle.parts.specs.PartValue.{PartValue}
use Rattle.parts.specs.Series.{maps_modulo}

pub record AreSlices (job : JobData) (K r : ℕ) (f : List (Poly (job_ring job)) → Poly (job_ring job))
    (row : List PartValue) : Type 0 where
  pub parts : AreJobParts job K r row
  pub slices : (fs : List (Poly (job_ring job))) → IsFactors job r fs
      → IsRowOf K r (f fs) (maps_modulo job.modulus job.weights row)

abbrev pub factor_at : (job : JobData) → ℕ → List (Poly (job_ring job)) → Poly (job_ring job)
factor_at job s fs = slice_index_or fs s zero

-- before stage s is the product of the factors from place s on
abbrev pub IsUpstream : JobData → ℕ → ℕ → List PartValue → Type 0
IsUpstream job s r row = AreSlices job (total_times (drop s job.roots)) r (λ fs. product_from r s fs) row

-- where row is one of parts of the ring, so is out, of the shifted polynomial
abbrev pub HasShift : Ring → ℕ → List PartValue → List PartValue → Type 0
HasShift ring c row out = (K r : ℕ) → IsRowOfParts ring K r row →
    IsRowOfParts ring K r out × IsShiftedRow ring c K r row out

-- two proofs that these are the slices are equal
pub AreSlices-IsProp : (job : JobData) (K r : ℕ) (f : List (Poly (job_ring job)) → Poly (job_ring job))
    (row : List PartValue) → IsProp (AreSlices job K r f row)
AreSlices-IsProp job K r f row = hlevel (IsRowOfParts-IsProp, IsRowOf-IsProp (job_ring job))
